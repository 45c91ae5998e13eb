-- Proofs that are counted and checked one by one.
use Rattle.std.proofs.Common.{◌≡◌, ℕ, zero, suc, ◌+◌, ◌-◌, ◌<◌, ◌≤◌, ◌^◌, min, Option, Some, None, List, [], ◌∷◌, ◌++◌, length, slice_get, refl, ap, sym, ◌∙◌, subst, arith, inl, inr, ◌⊎◌, length-append}
use Rattle.certificate.specs.Proofs.{ProofTree}
use Rattle.plan_core.specs.Contents.{Contents}
use Rattle.plan_core.specs.Pairs.{pairs_of}
use Rattle.std.proofs.lemmas.Bool.{cases_lt, lt-ltb}
use Rattle.cert_check.specs.Judged.{FirstOf, next_after}
use Rattle.cert_check.specs.Proved.{ProvesPair}
use Rattle.plan_core.proofs.ListLemmas.{at_get}

module _ {X : Type 0} where
  -- what stands in a list with one more
  get_pushed : (xs : List X) (x : X) (i : ℕ) (y : X) → slice_get (xs ++ x ∷ []) i ≡ Some y → (slice_get xs i ≡ Some y) ⊎ ((i ≡ length xs) × (x ≡ y))
  get_pushed [] x zero y e = inr (refl, cc)
  get_pushed [] x (suc i) y e = cc
  get_pushed (z ∷ xs) x zero y e = inl e
  get_pushed (z ∷ xs) x (suc i) y e =
      elim (get_pushed xs x i y e) [ inl h ↦ inl h | inr h ↦ inr (ap suc (h.0), h.1) ]

  get_before : (xs ys : List X) (i : ℕ) (y : X) → slice_get xs i ≡ Some y → slice_get (xs ++ ys) i ≡ Some y
  get_before [] ys i y e = cc
  get_before (z ∷ xs) ys zero y e = e
  get_before (z ∷ xs) ys (suc i) y e = get_before xs ys i y e

  get_last : (xs : List X) (x : X) → slice_get (xs ++ x ∷ []) (length xs) ≡ Some x
  get_last [] x = refl
  get_last (z ∷ xs) x = get_last xs x

module _ (plan : Contents) (trees : List ProofTree) (tree : ProofTree) where
  -- the first that is unproved stays the first
  pub still_first : (i : ℕ) → FirstOf plan trees (Some i) → FirstOf plan (trees ++ tree ∷ []) (Some i)
  still_first i (within, first) = (
    within,
    record {
      proof = first.proof;
      here = get_before trees (tree ∷ []) i first.proof first.here;
      unproved = first.unproved;
      before = λ j p lt e. elim (get_pushed trees tree j p e) [
        | inl old ↦ first.before j p lt old
        | inr new ↦ let at = at_get trees i first.proof first.here in let past = new.0 in absurd (omega (arith, at.0))
      ];
    },
  )

  -- a proof without a pair
  pub no_further_pair : length (pairs_of plan) ≤ length trees → FirstOf plan trees None → FirstOf plan (trees ++ tree ∷ []) None
  no_further_pair le all k p lt e = elim (get_pushed trees tree k p e) [ inl old ↦ all k p lt old | inr new ↦ let at = new.0 in absurd (omega arith) ]

  -- a proof that proves its pair
  pub next_proved : (i : ℕ) → i ≡ length trees → FirstOf plan trees None → ProvesPair plan i tree → FirstOf plan (trees ++ tree ∷ []) None
  next_proved i here all proves k p lt e =
      elim (get_pushed trees tree k p e) [
        | inl old ↦ all k p lt old
        | inr new ↦
            let same : i ≡ k = here ∙ sym new.0 in
            subst (λ (n : ℕ). ProvesPair plan n p) same (subst (ProvesPair plan i) new.1 proves)
      ]

  -- a proof that does not
  pub next_unproved : (i : ℕ) → i ≡ length trees → i < length (pairs_of plan) → FirstOf plan trees None → (ProvesPair plan i tree → ⊥) → FirstOf plan (trees ++ tree ∷ []) (Some i)
  next_unproved i here within all unproved = (
    within,
    record {
      proof = tree;
      here = subst (λ (n : ℕ). slice_get (trees ++ tree ∷ []) n ≡ Some tree) (sym here) (get_last trees tree);
      unproved = unproved;
      before = λ j p lt e. elim (get_pushed trees tree j p e) [
        | inl old ↦ all j p (omega arith) old
        | inr new ↦ let at = new.0 in absurd (omega arith)
      ];
    },
  )

  -- one more
  pub counted : (n m : ℕ) → n ≡ min (length trees) (2 ^ 64 - 1) → m ≡ min (n + 1) (2 ^ 64 - 1) → m ≡ min (length (trees ++ tree ∷ [])) (2 ^ 64 - 1)
  counted n m e f = let more = length-append trees (tree ∷ []) in omega arith

-- ---- the pair that is next

next_is : (pairs n i : ℕ) (u : Option ℕ) → next_after pairs u n ≡ Some i → u ≡ None
next_is pairs n i None e = refl
next_is pairs n i (Some j) e = cc

none_next : (pairs n : ℕ) → next_after pairs None n ≡ None → pairs ≤ n
none_next pairs n e = elim (cases_lt n pairs) [ inl less ↦ let some : next_after pairs None n ≡ Some n = rw (lt-ltb n pairs less) refl in cc | inr le ↦ le ]

pub first_is : (plan : Contents) (trees : List ProofTree) (o p : Option ℕ) → o ≡ p → FirstOf plan trees o → FirstOf plan trees p
first_is plan trees o p e f = subst (FirstOf plan trees) e f

module _ (plan : Contents) (trees : List ProofTree) (tree : ProofTree) (u : Option ℕ) (n : ℕ) (first : FirstOf plan trees u) where
  -- the next pair is not proved
  pub unproved_next : (i : ℕ) → next_after (length (pairs_of plan)) u n ≡ Some i → i ≡ length trees → i < length (pairs_of plan) → (ProvesPair plan i tree → ⊥) → FirstOf plan (trees ++ tree ∷ []) (Some i)
  unproved_next i next here within refuted = next_unproved plan trees tree i here within (first_is plan trees u None (next_is (length (pairs_of plan)) n i u next) first) refuted

  -- the next pair is proved
  pub proved_next : (i : ℕ) → next_after (length (pairs_of plan)) u n ≡ Some i → i ≡ length trees → ProvesPair plan i tree → FirstOf plan (trees ++ tree ∷ []) u
  proved_next i next here proves =
      let none = next_is (length (pairs_of plan)) n i u next in
      first_is plan (trees ++ tree ∷ []) None u (sym none) (next_proved plan trees tree i here (first_is plan trees u None none first) proves)

-- no pair is next
pub spare : (plan : Contents) (trees : List ProofTree) (tree : ProofTree) (u : Option ℕ) (n : ℕ) → FirstOf plan trees u → next_after (length (pairs_of plan)) u n ≡ None → n ≤ length trees → FirstOf plan (trees ++ tree ∷ []) u
spare plan trees tree (Some i) n first next le = still_first plan trees tree i first
spare plan trees tree None n first next le =
    let past = none_next (length (pairs_of plan)) n next in no_further_pair plan trees tree (omega (arith, past, le)) first
