-- Texts that were added to a list, and what holds of them.
use Rattle.std.proofs.Common.{◌≡◌, ℕ, ◌<◌, ◌≤◌, ◌+◌, true, false, List, [], ◌∷◌, ◌++◌, length, map, length-append, append-nil, append_assoc, refl, ap, sym, subst, ◌∙◌, arith}
use Rattle.std.specs.Prelude.{Result, Ok, Err, OnOk, Option, Some, None}
use Rattle.brief_tokens.specs.Reading.{naming, left}
use Rattle.brief_tokens.specs.declared.tokens.Tokens.{Tokens as TokensRead}
use Rattle.brief_tokens.specs.declared.tokens.FileNamed.{FileNamed}
use Rattle.brief_tokens.specs.Heads.{begun, next_file, after_file, names, no_more, wrong}
use Rattle.brief_tokens.specs.Tokens.{Tokens, last}
use Rattle.plan_text.specs.declared.errors.PlanError.{PlanError}
use Rattle.plan_text.specs.declared.errors.PlanError.TheVariants as errors
use Rattle.run_parts.specs.declared.errors.RunError.{RunError}
use Rattle.board_files.specs.Files.{Files, is_known}
use Rattle.board_files.specs.Given.{listed, texts_listed, stop_of}
use Rattle.board_files.specs.Lists as spec
use Rattle.lexer.specs.Lexemes.{text_end}
use Rattle.lexer.specs.declared.lexemes.Letters.{Letters}
use Rattle.lexer.specs.declared.lexemes.Letters.TheVariants.{Plain, Dots, Brief, Board}
use Rattle.board_files.specs.declared.lists.Inside.{Inside}
use Rattle.board_files.specs.declared.lists.Inside.TheVariants as inside
use Rattle.board_files.specs.declared.lists.Stopped.{Stopped}
use Rattle.board_files.specs.declared.lists.Stopped.TheVariants as stopped
use Rattle.board_files.specs.Progress.{files_left, IsStopped, IsInside, Added, AddsGiven, stood, added, AddsHead, named, Past, Passing}
use Rattle.board_files.specs.declared.lists.ListMade.{ListMade}
use Rattle.board_files.specs.declared.lists.Listed.{Listed}
use Rattle.board_files.specs.declared.openers.FileId.{FileId}
use Rattle.board_files.proofs.PastLemmas.{past_none, past_one}

pub map_over : {A B : Type 0} (f : A → B) (xs ys : List A) → map f (xs ++ ys) ≡ map f xs ++ map f ys
map_over f [] ys = refl
map_over f (x ∷ xs) ys = ap (λ all. f x ∷ all) (map_over f xs ys)

pub nothing_added : (Holds : List spec.Listed → List FileId → Type 0) (made : ListMade) → Holds [] made.known.items → Added Holds made made
nothing_added Holds made h = record { texts = []; kept = sym (append-nil made.texts.items); grown = omega arith; holds = h }

pub map_added : (A B : List spec.Listed → List FileId → Type 0) (before now : ListMade) →
    ((texts : List spec.Listed) (known : List FileId) → A texts known → B texts known) → Added A before now → Added B before now
map_added A B before now f a = record { texts = a.texts; kept = a.kept; grown = a.grown; holds = f (texts_listed a.texts) now.known.items a.holds }

pub map_ok : {V E : Type 0} (result : Result V E) (A B : List spec.Listed → List FileId → Type 0) (before now : ListMade) →
    ((texts : List spec.Listed) (known : List FileId) → A texts known → B texts known) → OnOk result (Added A before now) → OnOk result (Added B before now)
map_ok (Ok v) A B before now f a = map_added A B before now f a
map_ok (Err e) A B before now f a = a

module _ {D : Type 0} (files : Files D) where
  -- a text after what its head names
  pub text_added : (text : Listed) (folder : List ℕ) (known : List FileId) (before after : D) (first begun made final : ListMade) →
      begun.texts.items ≡ first.texts.items → length first.known.items ≤ length begun.known.items → known ≡ begun.known.items →
      final.texts.items ≡ made.texts.items ++ text ∷ [] → final.known.items ≡ made.known.items →
      Added (λ texts now. AddsHead files (listed text) folder known before texts now after) begun made →
      Added (λ texts now. spec.AddsText files (listed text) folder known before texts now after) first final
  text_added text folder known before after first begun made final same more is end ids a = record {
    texts = a.texts ++ text ∷ [];
    kept = end ∙ ap (λ xs. xs ++ text ∷ []) a.kept ∙ append_assoc begun.texts.items a.texts (text ∷ []) ∙ ap (λ xs. xs ++ (a.texts ++ text ∷ [])) same;
    grown = let n = a.grown in let m = ap length ids in omega (arith, more, n, m);
    holds =
        subst (λ all. spec.AddsText files (listed text) folder known before all final.known.items after) (sym (map_over listed a.texts (text ∷ [])))
        (subst (λ ids. spec.AddsText files (listed text) folder known before (texts_listed a.texts ++ listed text ∷ []) ids after) (sym ids)
        (text_last a.holds));
  }
    where
      text_last : AddsHead files (listed text) folder known before (texts_listed a.texts) made.known.items after →
          spec.AddsText files (listed text) folder known before (texts_listed a.texts ++ listed text ∷ []) made.known.items after
      text_last (named head lists) = spec.text_last head lists

  -- ---- one file

  pub at_unopened : (text : spec.Listed) (line : ℕ) (slice path wanted : List ℕ) (known : List FileId) (before after : D) (e : RunError) →
      slice ≡ path → path ≡ wanted → files.opens before slice (Err e) after →
      spec.StopsAt files text line wanted known before (spec.unread text line path e) after
  at_unopened text line slice path wanted known before after e s p o =
      subst (λ w. spec.StopsAt files text line w known before (spec.unread text line path e) after) p
      (spec.unopened (subst (λ w. files.opens before w (Err e) after) s o))

  pub at_too_many : (text : spec.Listed) (line : ℕ) (slice path wanted : List ℕ) (id : FileId) (known : List FileId) (before after : D) (e : PlanError) →
      slice ≡ path → path ≡ wanted → files.opens before slice (Ok id) after → is_known id known ≡ false → spec.most_before < length known →
      e ≡ errors.TooMany line →
      spec.StopsAt files text line wanted known before (spec.refused text e) after
  at_too_many text line slice path wanted id known before after e s p o new many is =
      subst (λ c. spec.StopsAt files text line wanted known before (spec.refused text c) after) (sym is)
      (spec.too_many (subst (λ w. files.opens before w (Ok id) after) (s ∙ p) o) new many)

  pub at_not_given : (text : spec.Listed) (line : ℕ) (slice path wanted : List ℕ) (id : FileId) (known : List FileId) (before opened after : D) (e : RunError) →
      slice ≡ path → path ≡ wanted → files.opens before slice (Ok id) opened → is_known id known ≡ false → length known ≤ spec.most_before →
      files.gives opened (Err e) after →
      spec.StopsAt files text line wanted known before (spec.unread text line path e) after
  at_not_given text line slice path wanted id known before opened after e s p o new room g =
      subst (λ w. spec.StopsAt files text line w known before (spec.unread text line path e) after) p
      (spec.not_given (subst (λ w. files.opens before w (Ok id) opened) s o) new room g)

  pub stops_inside : (text : spec.Listed) (line : ℕ) (slice path wanted bytes : List ℕ) (id : FileId) (known : List FileId) (before opened begins after : D) →
      slice ≡ path → path ≡ wanted → files.opens before slice (Ok id) opened → is_known id known ≡ false → length known ≤ spec.most_before →
      files.gives opened (Ok bytes) begins → (stop : spec.Stop) →
      spec.StopsText files (record { path = path; text = bytes }) (spec.folder_of path) (known ++ id ∷ []) begins stop after →
      spec.StopsAt files text line wanted known before stop after
  stops_inside text line slice path wanted bytes id known before opened begins after s p o new room g stop h =
      subst (λ w. spec.StopsAt files text line w known before stop after) p
      (spec.inside (subst (λ w. files.opens before w (Ok id) opened) s o) new room g h)

  pub passes : (slice path wanted : List ℕ) (id : FileId) (made : ListMade) (before after : D) →
      slice ≡ path → path ≡ wanted → files.opens before slice (Ok id) after → is_known id made.known.items ≡ true →
      Added (λ texts ids. spec.Adds files wanted made.known.items before texts ids after) made made
  passes slice path wanted id made before after s p o is =
      nothing_added (λ texts ids. spec.Adds files wanted made.known.items before texts ids after) made
      (spec.passed (subst (λ w. files.opens before w (Ok id) after) (s ∙ p) o) is)

  pub reads : (slice path wanted bytes : List ℕ) (id : FileId) (first made : ListMade) (before opened begins after : D) →
      slice ≡ path → path ≡ wanted → files.opens before slice (Ok id) opened → is_known id first.known.items ≡ false →
      length first.known.items ≤ spec.most_before → files.gives opened (Ok bytes) begins →
      Added (λ texts ids. spec.AddsText files (record { path = path; text = bytes }) (spec.folder_of path) (first.known.items ++ id ∷ []) begins texts ids after) first made →
      Added (λ texts ids. spec.Adds files wanted first.known.items before texts ids after) first made
  reads slice path wanted bytes id first made before opened begins after s p o new room g a =
      map_added (λ texts ids. spec.AddsText files (record { path = path; text = bytes }) (spec.folder_of path) (first.known.items ++ id ∷ []) begins texts ids after)
      (λ texts ids. spec.Adds files wanted first.known.items before texts ids after) first made
      (λ texts ids h.
      subst (λ w. spec.Adds files w first.known.items before texts ids after) p
      (spec.read (subst (λ w. files.opens before w (Ok id) opened) s o) new room g h)) a

  pub passing_none : (folder : List ℕ) (from : Tokens) (first : ListMade) (before : D) → Passing files folder from first before from first before
  passing_none folder from first before = record {
    texts = [];
    kept = sym (append-nil first.texts.items);
    grown = omega arith;
    past = past_none files folder from first.known.items before;
  }

  pub passing_one : (folder name : List ℕ) (line : ℕ) (from here rest more : Tokens) (first made final : ListMade) (before now next : D) →
      Passing files folder from first before here made now →
      next_file here ≡ names name line rest →
      Added (λ texts ids. spec.Adds files (spec.path_from folder name) made.known.items now texts ids next) made final →
      after_file rest ≡ Ok more →
      Passing files folder from first before more final next
  passing_one folder name line from here rest more first made final before now next p is_named a ended = record {
    texts = p.texts ++ a.texts;
    kept = a.kept ∙ ap (λ xs. xs ++ a.texts) p.kept ∙ append_assoc first.texts.items p.texts a.texts;
    grown = let n = p.grown in let m = a.grown in omega (arith, n, m);
    past =
        subst (λ all. Past files folder from first.known.items before all more final.known.items next) (sym (map_over listed p.texts a.texts))
        (past_one files folder name line from here rest more first.known.items made.known.items final.known.items before now next (texts_listed p.texts) (texts_listed a.texts) p.past is_named a.holds ended);
  }

  pub passing_all : (folder : List ℕ) (from here rest : Tokens) (first made : ListMade) (before now : D) →
      Passing files folder from first before here made now →
      next_file here ≡ no_more rest →
      Added (λ texts ids. spec.Lists files folder from first.known.items before texts ids now) first made
  passing_all folder from here rest first made before now p none = record {
    texts = p.texts;
    kept = p.kept;
    grown = p.grown;
    holds =
        subst (λ all. spec.Lists files folder from first.known.items before all made.known.items now) (append-nil (texts_listed p.texts))
        (p.past.lists [] made.known.items now (spec.no_file none));
  }

pub map_stopped : (s : Stopped) (P Q : spec.Stop → Type 0) → ((stop : spec.Stop) → P stop → Q stop) → IsStopped s P → IsStopped s Q
map_stopped (stopped.At text why) P Q f h = f (stop_of (listed text) why) h
map_stopped stopped.NoMemory P Q f h = h

pub map_inside : (text : spec.Listed) (e : Inside) (P Q : spec.Stop → Type 0) → ((stop : spec.Stop) → P stop → Q stop) → IsInside text e P → IsInside text e Q
map_inside text (inside.Here why) P Q f h = f (stop_of text why) h
map_inside text (inside.There s) P Q f h = map_stopped s P Q f h

-- a brief of the first version names no files
pub other_letters : (l : Letters) (rest : Tokens) → (l ≡ Board → ⊥) → spec.files_begin (Ok (l, rest)) ≡ Ok (last text_end 1)
other_letters Plain rest other = refl
other_letters Dots rest other = refl
other_letters Brief rest other = refl
other_letters Board rest other = absurd (other refl)

pub begins_board : (text : List ℕ) (l : Letters) (rest : Tokens) → begun text ≡ Ok (l, rest) → l ≡ Board → spec.files_of text ≡ Ok rest
begins_board text l rest e is = ap spec.files_begin e ∙ ap (λ (m : Letters). spec.files_begin (Ok (m, rest))) is

pub begins_other : (text : List ℕ) (l : Letters) (rest : Tokens) → begun text ≡ Ok (l, rest) → (l ≡ Board → ⊥) → spec.files_of text ≡ Ok (last text_end 1)
begins_other text l rest e other = ap spec.files_begin e ∙ other_letters l rest other

pub named_none : (o : Option FileNamed) (t rest : Tokens) → next_file t ≡ naming o rest → o ≡ None → next_file t ≡ no_more rest
named_none o t rest e is = e ∙ ap (λ x. naming x rest) is

pub named_some : (o : Option FileNamed) (file : FileNamed) (t rest : Tokens) → next_file t ≡ naming o rest → o ≡ Some file → next_file t ≡ names file.name.now file.line rest
named_some o file t rest e is = e ∙ ap (λ x. naming x rest) is

pub head_some : (slice text : List ℕ) (o : Option TokensRead) (tokens : TokensRead) → spec.files_of slice ≡ Ok (files_left o) → slice ≡ text → o ≡ Some tokens → spec.files_of text ≡ Ok (left tokens)
head_some slice text o tokens e same is = sym (ap spec.files_of same) ∙ e ∙ ap (λ (x : Option TokensRead). Ok (files_left x)) is

pub head_none : (slice text : List ℕ) (o : Option TokensRead) → spec.files_of slice ≡ Ok (files_left o) → slice ≡ text → o ≡ None → spec.files_of text ≡ Ok (last text_end 1)
head_none slice text o e same is = sym (ap spec.files_of same) ∙ e ∙ ap (λ (x : Option TokensRead). Ok (files_left x)) is
