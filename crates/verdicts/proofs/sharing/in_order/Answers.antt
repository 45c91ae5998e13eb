use Rattle.std.proofs.Common.{rules}
use Rattle.std.proofs.lemmas.List.Sorted.{IsNonDecreasingBy-from_sort_by_key, IsPermutation-map, IsPermutation-trans}
use Rattle.pair_queue.specs.Dispatch.{first_numbers}
use Rattle.verdicts.specs.Parts.{numbers_of}
use Rattle.verdicts.proofs.Ranges.{sorted_permutation, mapped_rises}
use Rattle.verdicts.proofs.sharing.in_order.Goals as goal

pub returns-clause-order : goal.returns-clause-order
returns-clause-order g c =
    let old = c.args.found.now.items in
    let new = c.sort_unstable_by_key.new.self.items in
    let sorted = IsNonDecreasingBy-from_sort_by_key (λ f. f.number) new c.sort_unstable_by_key.ensures.sorted (λ a r q k. search rules) in
    let order = mapped_rises (λ f. f.number) new sorted in
    let moved = IsPermutation-map (λ f. f.number) old new c.sort_unstable_by_key.ensures.permutation in
    sorted_permutation (numbers_of new) c.args.n order (IsPermutation-trans (first_numbers c.args.n) (numbers_of old) (numbers_of new) c.requires moved)
