-- What hands know, in the words of plays.
use Rattle.std.specs.Prelude.{ℕ, Option, Some, None}
use Rattle.std.specs.List.{slice_index_or}
use Rattle.plan_core.specs.declared.plans.Plan.{Plan}
use Rattle.plan_core.specs.Contents.{Contents, empty}
use Rattle.plan_core.specs.PlanContents.{plan_contents}
use Rattle.plays.specs.Games.{Game}
use Rattle.bus_bench.specs.declared.hands.Hand.{Hand}
use Rattle.bus_bench.specs.declared.hands.Setup.{Setup}

abbrev pub contents_in : Option Plan → Contents
contents_in (Some plan) = plan_contents plan
contents_in None = empty

-- what a bench with this setup plays
abbrev pub setup_game : Setup → Game
setup_game setup = record { plan = plan_contents setup.plan.now; starters = setup.starters.items; answers = setup.answers.items }

-- what is played, as a hand knows it
abbrev pub hand_game : Hand → Game
hand_game v = record { plan = contents_in v.plan; starters = v.starters; answers = v.answers }

-- the participant with this place among the starters
abbrev pub starter : Game → ℕ → ℕ
starter game k = slice_index_or game.starters k 0
