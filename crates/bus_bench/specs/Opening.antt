-- What an opened bench is, and when it is refused.
use Rattle.std.specs.Prelude.{◌≡◌, ℕ, List, [], length, map, Option, Some, None, Bool}
use Rattle.std.specs.List.{range_with_len}
use Rattle.plan_core.specs.declared.plans.Plan.{Plan}
use Rattle.atomic_table.specs.Seated.{TableId}
use Rattle.atomic_table.specs.Table.{Me}
use Rattle.run_errors.specs.declared.benches.OpenError.{OpenError}
use Rattle.run_errors.specs.declared.benches.OpenError.TheVariants.{NoMemory}
use Rattle.bus_bench.specs.Rule.{SLOTS, opening}
use Rattle.bus_bench.specs.Seats.{BenchName, Player, fresh}
use Rattle.bus_bench.specs.Tickets.{ticket_bench}
use Rattle.bus_bench.specs.declared.hands.Hand.{Hand}
use Rattle.bus_bench.specs.declared.hands.Setup.{Setup}
use Rattle.bus_bench.specs.declared.hands.Role.TheVariants.{Host}

-- a bench with this plan, these starters and these answers, its host, and a fresh seat for each starter, in order
pub record IsOpened (plan : Plan) (starters : List ℕ) (answers : List Bool) (bench host : BenchName) (seats : List Player) : Type 0 where
  pub same_plan : bench.plan ≡ Some plan
  pub same_starters : bench.starters ≡ starters
  pub same_answers : bench.answers ≡ answers
  pub same_host : host ≡ bench
  pub fresh_seats : seats ≡ map (fresh bench) (range_with_len 0 (length starters))

-- the refusal that is due; where none is, there was no memory
abbrev pub IsOpenRefusal : Option OpenError → OpenError → Type 0
IsOpenRefusal (Some due) e = e ≡ due
IsOpenRefusal None e = e ≡ NoMemory

-- The host's ticket while it hands out seats: so many are out. Only private contracts and proofs use this.
pub record IsHanding (bench : BenchName) (count : ℕ) (id : TableId) (me : Me Unit Hand) : Type 0 where
  pub named : bench ≡ ticket_bench id me
  pub slots : me.1 ≡ []
  pub hosts : me.0.role ≡ Host
  pub out : me.0.seat ≡ count
  pub none_back : me.0.back ≡ []

-- A table that was told this setup, with a word for each slot, and the host's ticket for it. Only private contracts and
-- proofs use this.
abbrev pub IsLaid : Setup → TableId → Setup → TableId → Me Unit Hand → Type 0
IsLaid setup id key ticket_id me =
    (id.words ≡ SLOTS) × (key ≡ setup) × (ticket_id ≡ id) × (me ≡ (opening setup, []))
