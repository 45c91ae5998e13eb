-- Parts of a text that are written one after another.
use Rattle.std.proofs.Common.{Result, Ok, Err, OnOk, IfErr, ◌≡◌, ℕ, List, [], ◌++◌, sym, ap, ◌∙◌, subst}
use Rattle.run_parts.specs.Devices.{Writer}
use Rattle.decoding.specs.Parts.{IsLeft}
use Rattle.decoding.proofs.PartLemmas.{all_left}

module _ {D : Type 0} (writer : Writer D) (start : D) (text : List ℕ) where
  -- what is left at first is in the block and in the first piece, and after it
  pub first_left : (block head piece rest : List ℕ) → text ≡ head ++ rest → block ≡ [] → piece ≡ head → IsLeft writer start text (block ++ (piece ++ rest)) start
  first_left block head piece rest whole empty same =
      subst (λ (left : List ℕ). IsLeft writer start text left start) (whole ∙ (ap (λ (cs : List ℕ). cs ++ rest) (sym same) ∙ ap (λ (cs : List ℕ). cs ++ (piece ++ rest)) (sym empty))) (all_left writer start text)

pub on_ok : {X E : Type 0} (r : Result X E) {P Q : Type 0} → (P → Q) → OnOk r P → OnOk r Q
on_ok (Ok x) f h = f h
on_ok (Err e) f h = tt

pub if_err : {X E : Type 0} (r : Result X E) (P Q : E → Type 0) → ((e : E) → P e → Q e) → IfErr r P → IfErr r Q
if_err (Ok x) P Q f h = tt
if_err (Err e) P Q f h = f e h
