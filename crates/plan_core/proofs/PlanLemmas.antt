-- What holds of every plan, by its contents.
use Rattle.std.proofs.Common.{◌≡◌, ℕ, ◌+◌, ◌-◌, ◌*◌, ◌<◌, ◌≤◌, List, length, Some, slice_get, get_or, sym, ap, subst, arith}
use Rattle.plan_core.specs.declared.pairs.Row.{Row}
use Rattle.plan_core.specs.declared.plans.Plan.{Plan}
use Rattle.plan_core.specs.Limits.{IsWithinLimits}
use Rattle.plan_core.specs.Pairs.{pairs_of}
use Rattle.plan_core.specs.PairTables.{IsRow, IsPairTable}
use Rattle.plan_core.specs.Participants.{participants_of, participant_count, apart}
use Rattle.plan_core.specs.PlanContents.{plan_contents}
use Rattle.plan_core.proofs.PairLemmas.{AreRows-last, AreRows-pair}
use Rattle.plan_core.proofs.ContentsLemmas.{participant_count-few}

pub limits_of : (plan : Plan) → IsWithinLimits (plan_contents plan)
unfolding plan_contents
limits_of plan = plan.limits

pub participants_are : (plan : Plan) → plan.participants.items ≡ participants_of (plan_contents plan)
unfolding plan_contents
participants_are plan = plan.numbered

pub table_of : (plan : Plan) → IsPairTable (plan_contents plan) plan.pairs
unfolding plan_contents
table_of plan = plan.paired

pub participants_few : (plan : Plan) → length plan.participants.items ≤ 544
participants_few plan = subst (λ n. n ≤ 544) (sym (ap length (participants_are plan))) (participant_count-few (plan_contents plan) (limits_of plan))

pub pair_count_is : (plan : Plan) → plan.pairs.count ≡ length (pairs_of (plan_contents plan))
unfolding pairs_of
pair_count_is plan = (table_of plan).pairs

-- row x holds pair i
pub record HoldsPair (plan : Plan) (i x : ℕ) (row : Row) : Type 0 where
  pub within : x < participant_count (plan_contents plan)
  pub is : IsRow (apart (plan_contents plan)) (participant_count (plan_contents plan)) plan.pairs.partners.items x row
  pub from : row.first ≤ i
  pub to : i < row.first + row.len

pub holds_pair : (plan : Plan) (i x : ℕ) (rows : List Row) (row : Row) → rows ≡ plan.pairs.rows.items → i < length (pairs_of (plan_contents plan)) → x < length rows → ((d : Row) → (get_or rows x d).first ≤ i) → ((k : ℕ) (d : Row) → x < k → k < length rows → i < (get_or rows k d).first) → row ≡ get_or plan.pairs.rows.items x row → HoldsPair plan i x row
holds_pair plan i x rows row same lt within begun last is =
    let are = table_of plan in
    let is_apart = apart (plan_contents plan) in
    let n = participant_count (plan_contents plan) in
    let inside : x < n = omega (arith, are.sized, ap length same) in
    let after : (k : ℕ) (d : Row) → x < k → k < length plan.pairs.rows.items → i < (get_or plan.pairs.rows.items k d).first = λ k d above inside. subst (λ rs. i < (get_or rs k d).first) same (last k d above (omega (arith, ap length same, inside))) in
    let count : i < plan.pairs.count = omega (arith, pair_count_is plan, lt) in
    let end = AreRows-last is_apart n plan.pairs.rows.items plan.pairs.partners.items plan.pairs.count are i x row count inside after in
    record {
      within = inside;
      is = subst (IsRow is_apart n plan.pairs.partners.items x) (sym is) (are.row x row inside);
      from = subst (λ (r : Row). r.first ≤ i) (sym is) (subst (λ rs. (get_or rs x row).first ≤ i) same (begun row));
      to = subst (λ (r : Row). i < r.first + r.len) (sym is) end;
    }

pub HoldsPair-pair : (plan : Plan) (i x : ℕ) (row : Row) → HoldsPair plan i x row → slice_get (pairs_of (plan_contents plan)) i ≡ Some (x, get_or plan.pairs.partners.items (row.partners + (i - row.first)) 0)
unfolding pairs_of
HoldsPair-pair plan i x row holds =
    AreRows-pair (apart (plan_contents plan)) (participant_count (plan_contents plan)) plan.pairs.rows.items plan.pairs.partners.items plan.pairs.count (table_of plan) i x row holds.within holds.is holds.from holds.to

pub partners_few : (plan : Plan) → length plan.pairs.partners.items ≤ 544 * 544
partners_few plan =
    let few = participant_count-few (plan_contents plan) (limits_of plan) in
    let square : participant_count (plan_contents plan) * participant_count (plan_contents plan) ≤ 544 * 544 = grind (arith, few) in
    omega (arith, (table_of plan).few, square)
