-- A text that comes in pieces: what is judged, and what is held.
use Rattle.std.proofs.Common.{◌≡◌, ℕ, ◌+◌, ◌-◌, ◌≤◌, List, [], ◌++◌, length, take, Option, Some, None, ap, sym, ◌∙◌, subst, arith, append_assoc, length-append}
use Rattle.std.specs.Prelude.{Result, Ok, Err, IfOk, drop}
use Rattle.std.proofs.Math.Seq.{drop-append_seam, drop-append-add}
use Rattle.std.proofs.lemmas.List.{take-append-drop, length-take}
use Rattle.certificate.specs.declared.lines.Standing.{Standing}
use Rattle.certificate.specs.Proofs.{ProofTree}
use Rattle.certificate.specs.Reading.{Stands}
use Rattle.plan_core.specs.Contents.{Contents}
use Rattle.cert_check.specs.declared.checkers.Checker.{Checker}
use Rattle.cert_check.specs.declared.tallies.Tally.{Tally}
use Rattle.cert_check.specs.Fed.{IsJudgedTo, IsFed, StandsIn}
use Rattle.cert_check.specs.Judged.{Tallies}

-- where the text up to the end of some of the bytes that are held splits anew, all of it does
resplit : (before later held rest : List ℕ) (end left : ℕ) → end ≤ length held → before ++ take end held ≡ later ++ rest → length rest ≡ left → left ≤ end
    → before ++ held ≡ later ++ drop (end - left) held
resplit before later held rest end left within split size less =
    let front = take end held in
    let back = drop end held in
    let front_size : length front ≡ end = length-take end held ∙ omega arith in
    let one = ap length split in
    let two = length-append before front in
    let three = length-append later rest in
    let whole : before ++ held ≡ later ++ (rest ++ back) =
    ap (λ (h : List ℕ). before ++ h) (sym (take-append-drop end held))
    ∙ sym (append_assoc before front back)
    ∙ ap (λ (t : List ℕ). t ++ back) split
    ∙ append_assoc later rest back
    in
    let count : length later ≡ length before + (end - left) = omega (arith, one, two, three, front_size, size, less) in
    let tail : drop (end - left) held ≡ rest ++ back =
    sym (drop-append-add before held (end - left))
    ∙ ap (λ n. drop n (before ++ held)) (sym count)
    ∙ ap (drop (length later)) whole
    ∙ drop-append_seam later (rest ++ back)
    in
    whole ∙ ap (λ (t : List ℕ). later ++ t) (sym tail)

-- nothing is before what is held, as long as reading stands nowhere
pub all_held : (plan : Contents) (after : Option Standing) (tally : Tally) (before : List ℕ) → after ≡ None → IsJudgedTo plan after tally before → (before ≡ []) × Tallies plan [] tally
all_held plan after tally before none judged = subst (λ (o : Option Standing). IsJudgedTo plan o tally before) none judged

pub some_judged : (plan : Contents) (after : Option Standing) (standing : Standing) (tally : Tally) (before : List ℕ) → after ≡ Some standing → IsJudgedTo plan after tally before
    → (trees : List ProofTree) × Stands before trees standing × Tallies plan trees tally
some_judged plan after standing tally before some judged = subst (λ (o : Option Standing). IsJudgedTo plan o tally before) some judged

module _ (plan : Contents) (old new : Checker) (text : List ℕ) (fed : IsFed plan old text) where
  module _ (end left : ℕ) (standing : Standing) (within : end ≤ length old.held.items) (less : left ≤ end) (after : new.after ≡ Some standing) (held : new.held.items ≡ drop (end - left) old.held.items) where
    -- further lines are judged
    pub fed_on : (trees : List ProofTree) → StandsIn (fed.before ++ take end old.held.items) trees standing left → Tallies plan trees new.tally → IsFed plan new text
    fed_on trees at tallied = record {
      before = at.before;
      judged = subst (λ (o : Option Standing). IsJudgedTo plan o new.tally at.before) (sym after) (trees, at.stands, tallied);
      all =
          fed.all
          ∙ resplit fed.before at.before old.held.items at.rest end left within at.text_is at.size less
          ∙ ap (λ (t : List ℕ). at.before ++ t) (sym held);
    }

    -- the first two lines are read
    pub fed_begun : old.after ≡ None → new.tally ≡ old.tally → StandsIn (take end old.held.items) [] standing left → IsFed plan new text
    fed_begun none tally at =
        let nothing = all_held plan old.after old.tally fed.before none fed.judged in
        let same : take end old.held.items ≡ fed.before ++ take end old.held.items = ap (λ (b : List ℕ). b ++ take end old.held.items) (sym nothing.0) in
        fed_on [] (subst (λ (t : List ℕ). StandsIn t [] standing left) same at) (subst (Tallies plan []) (sym tally) nothing.1)

-- what follows for a value that is given
pub if_ok : {A E : Type 0} (P Q : A → Type 0) (r : Result A E) → ((x : A) → P x → Q x) → IfOk r P → IfOk r Q
if_ok P Q (Ok x) f h = f x h
if_ok P Q (Err e) f h = tt
