use Rattle.std.proofs.Common.{◌≡◌, ◌<◌, ◌≤◌, ◌⊎◌, inl, inr, leb, leb-true, get_or, arith, rules, true, false}
use Rattle.std.proofs.lemmas.Bool.{leb-false, cases_lt}
use Rattle.std.proofs.lemmas.List.Sorted.{IsPartitionPoint-from_clause, IsPartitionedBy-leb}
use Rattle.std.specs.List.Sorted.{IsPartitionPoint}
use Rattle.plan_core.specs.declared.pairs.Row.{Row}
use Rattle.plan_core.proofs.pairs.last_begun.Goals as goal

-- the rows that begin no later than i come first
point : (c : goal.After-partition_point) → IsPartitionPoint (λ (row : Row). leb row.first c.args.i ≡ true) (λ (row : Row). leb row.first c.args.i ≡ false) c.args.rows.now c.partition_point.result
point c =
    let parted = IsPartitionedBy-leb (λ (row : Row). row.first) _ c.args.i c.requires.ordered in
    IsPartitionPoint-from_clause (λ (row : Row). leb row.first c.args.i) _ _ c.partition_point.ensures.partitioned parted (λ a r q k. search rules)

-- and the first one does
some : (c : goal.After-partition_point) → (0 < c.partition_point.result) ⊎ (c.partition_point.result ≤ 0) → 0 < c.partition_point.result
some c (inl more) = more
some c (inr none) =
    let d : Row = record { first = 0; partners = 0; len = 0 } in
    absurd (omega (arith, c.requires.zero d, leb-false (get_or c.args.rows.now 0 d).first c.args.i ((point c).1 0 d none c.requires.some)))

pub overflow_sub-result : goal.overflow_sub-result
overflow_sub-result c = some c (cases_lt 0 c.partition_point.result)

pub returns : goal.returns
returns c =
    let more = some c (cases_lt 0 c.partition_point.result) in
    record {
      within = omega (arith, more, c.partition_point.ensures.bound);
      begun = λ d. leb-true _ _ ((point c).0 _ d (omega arith) (omega (arith, more)));
      last = λ k d above within. leb-false _ _ ((point c).1 k d (omega (arith, above)) within);
    }
