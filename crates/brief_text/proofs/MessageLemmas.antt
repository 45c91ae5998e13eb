-- Messages that go into a draft.
use Rattle.std.proofs.Common.{◌≡◌, ℕ, ◌+◌, ◌<◌, List, [], ◌∷◌, length, slice_index_or, refl, ap, sym, arith}
use Rattle.std.specs.List.{remove}
use Rattle.std.proofs.lemmas.List.{length-append}
use Rattle.message_tree.specs.Trees.{FrameTree}
use Rattle.plan_core.specs.Building.{with_message, with_interrupt}
use Rattle.plan_core.specs.Contents.{Contents}
use Rattle.brief_text.specs.Drafts.{Draft, with_messages}

-- the draft with these messages
abbrev pub with_all : Draft → List (List ℕ × FrameTree) → Draft
with_all draft messages = record draft { plan = with_messages draft.plan messages }

pub one_more_message : (plan : Contents) (name : List ℕ) (frame : FrameTree) → length (with_message plan name frame).messages ≡ length plan.messages + 1
unfolding with_message
one_more_message plan name frame = length-append plan.messages ((name, frame) ∷ [])

pub first_removed : {A : Type 0} (xs : List A) (x : A) → 0 < length xs → x ≡ slice_index_or xs 0 x → xs ≡ x ∷ remove xs 0
first_removed [] x some is = absurd (omega arith)
first_removed (y ∷ ys) x some is = ap (λ z. z ∷ ys) (sym is)

pub none_left : {A : Type 0} (xs : List A) → length xs ≡ 0 → xs ≡ []
none_left [] e = refl
none_left (x ∷ xs) e = absurd (omega (arith, e))

pub same_messages : (plan : Contents) (name : List ℕ) (address : ℕ) → (with_interrupt plan name address).messages ≡ plan.messages
unfolding with_interrupt
same_messages plan name address = refl
