use Rattle.std.proofs.Common.{◌≡◌, ◌≢◌, ◌<◌, ℕ, suc, length, get_or, ◌≤◌, MatchOption, add-one, add-zero, ap, sym, ◌∙◌, arith, rules, tests}
use Rattle.std.specs.List.{AllWithin, HoldsAt}
use Rattle.std.proofs.lemmas.Iterator.{IsFirst-from_position, YieldsList-from_slice}
use Rattle.std.proofs.lemmas.Bool.Decides.{nat_tests}
use Rattle.std.proofs.option.Match.{if_some, if_none}
use Rattle.plan_text.proofs.WordLemmas.{around_found, around_single, around_none, around_split}
use Rattle.brief_text.proofs.words.around_dots.Goals.{After-position, in_default-via-then-rest-lt2, in_default-via-else-rest-lt2+in-46+in_default-1, in_default-via-else-rest-lt2+in_default-1}
use Rattle.brief_text.proofs.words.around_dots.Goals as goal

first_dot : (c : After-position) →
    MatchOption c.position.result (AllWithin (λ b. b ≢ 46) c.args.word.now 0 (length c.args.word.now))
    (λ i. (i < length c.args.word.now) × HoldsAt (λ b. b ≡ 46) c.args.word.now i × AllWithin (λ b. b ≢ 46) c.args.word.now 0 i)
first_dot c = IsFirst-from_position _ _ _ (λ b. b ≡ 46) (λ b. b ≢ 46) c.position.ensures.ran (YieldsList-from_slice _ c.iter.ensures.rest) (λ x q k. search (rules, tests)) (λ x q k. search (rules, tests))

pub returns-in_err-dot : goal.returns-in_err-dot
returns-in_err-dot c =
    let none : (j d : ℕ) → 0 ≤ j → j < length c.args.word.now → get_or c.args.word.now j d ≢ 46 = if_none _ (λ (i : ℕ). (i < length c.args.word.now) × HoldsAt (λ b. b ≡ 46) c.args.word.now i × AllWithin (λ b. b ≢ 46) c.args.word.now 0 i) c.in_err-dot.was (first_dot (goal.at.returns-in_err-dot c).After-position) in
    rw c.from_residual.ensures (around_none c.args.word.now (λ j h. none j 0 (omega arith) h))

pub returns-in-46 : goal.returns-in-46
returns-in-46 c =
    let first = if_some _ _ _ c.in_ok-dot.was (first_dot (goal.at.returns-in-46 c).After-position) in
    let word = c.args.word.now in
    let dot = c.in_ok-dot.dot in
    let rest = c.split_at.result.1.now in
    let second : get_or rest 1 0 ≡ 46 = search rules in
    let here : get_or word (suc dot) 0 ≡ 46 = ap (λ n. get_or word n 0) (sym (add-one dot)) ∙ sym (c.split_at.ensures.by_index.2 1 0) ∙ second in
    let within : suc dot < length word = omega (arith, c.split_at.ensures.back_len, c.in-46.len_at_least) in
    around_split word _ rest dot c.split_at.ensures.front c.split_at.ensures.back (around_found word dot (λ j h. first.2 j 0 (omega arith) h) within (first.1 0) here)

pub returns-in_default : goal.returns-in_default
returns-in_default c =
    let first = if_some _ _ _ c.in_ok-dot.was (first_dot (goal.at.returns-in_default c).After-position) in
    let word = c.args.word.now in
    let dot = c.in_ok-dot.dot in
    let rest = c.split_at.result.1.now in
    let at_dot : get_or rest 0 0 ≡ 46 = c.split_at.ensures.by_index.2 0 0 ∙ ap (λ n. get_or word n 0) (add-zero dot) ∙ first.1 0 in
    let after : get_or rest 1 0 ≡ get_or word (suc dot) 0 = c.split_at.ensures.by_index.2 1 0 ∙ ap (λ n. get_or word n 0) (add-one dot) in
    let single : suc dot < length word → get_or word (suc dot) 0 ≢ 46 =
    elim c.in_default.branch [ in_default-via-then-rest-lt2 w ↦ λ h e. let short : length rest < 2 = grind (arith, nat_tests) in omega (arith, c.split_at.ensures.back_len) | in_default-via-else-rest-lt2+in-46+in_default-1 w ↦ λ h e. omega arith | in_default-via-else-rest-lt2+in_default-1 w ↦ λ h e. omega arith ] in
    around_single word dot (λ j h. first.2 j 0 (omega arith) h) first.0 (first.1 0) single
