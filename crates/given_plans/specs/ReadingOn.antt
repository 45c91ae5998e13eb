-- Briefs that are read after others. Only private contracts and proofs use this.
use Rattle.std.specs.Prelude.{◌≡◌, ℕ, List, [], ◌∷◌, ◌++◌, take, drop}
use Rattle.brief_text.specs.Drafts.{Draft}
use Rattle.brief_text.specs.Together.{together}
use Rattle.given_plans.specs.Given.{AddsBrief}
use Rattle.given_plans.specs.Sources.{ReadsTexts, ReadsUpTo, bytes_of}
use Rattle.given_plans.specs.declared.sources.BriefsRead.{BriefsRead}
use Rattle.run_parts.specs.Devices.{Reader}

-- these texts add their items, one after another
pub data AddBriefs : Draft → List (List ℕ) → Draft → Type 0 where
  no_more : {items : Draft} → AddBriefs items [] items
  one_more : {items more after : Draft} {text : List ℕ} {texts : List (List ℕ)} →
      AddsBrief items text more →
      AddBriefs more texts after →
      AddBriefs items (text ∷ texts) after

module _ {D : Type 0} (reader : Reader D) where
  -- the readers gave texts that add their items to what was read, and these are kept after those before them
  pub record ReadsOn (read : BriefsRead) (befores : List D) (it : BriefsRead) (nows : List D) : Type 0 where
    pub texts : List (List ℕ)
    pub gave : ReadsTexts reader befores texts nows
    pub added : AddBriefs (together read.briefs) texts (together it.briefs)
    pub kept : bytes_of it.texts.items ≡ bytes_of read.texts.items ++ texts

  -- after the texts that were read before, the readers gave these up to the last one
  pub record RefusedAfter (earlier : List (List ℕ)) (befores : List D) (before : List (List ℕ)) (last : List ℕ) (nows : List D) : Type 0 where
    pub texts : List (List ℕ)
    pub gave : ReadsUpTo reader befores texts last nows
    pub kept : before ≡ earlier ++ texts

-- the first readers are as they were, and this holds of those from this place on, before and now
pub record FromPlace {D : Type 0} (place : ℕ) (Holds : List D → List D → Type 0) (befores nows : List D) : Type 0 where
  pub rest : List D
  pub kept : nows ≡ take place befores ++ rest
  pub holds : Holds (drop place befores) rest
