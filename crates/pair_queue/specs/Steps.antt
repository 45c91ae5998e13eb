-- What each kind of step tells the seat that steps.
use Rattle.std.specs.Prelude.{◌≡◌, ℕ, ◌+◌, ◌-◌, ◌<◌, ◌≤◌, true, false, List, [], ◌∷◌, ◌++◌, All}
use Rattle.pair_queue.specs.declared.tickets.Ticket.{Ticket}
use Rattle.pair_queue.specs.declared.tickets.Ticket.TheVariants.{Number, End}
use Rattle.pair_queue.specs.declared.tickets.Hand.{Hand}
use Rattle.pair_queue.specs.Dispatch.{first_numbers}
use Rattle.pair_queue.specs.Rule.{times}

-- before the first push there is the owner's seat alone
abbrev pub opening : Hand
opening = record { alone = true; live = true; own = true; made = 0; seats = 0; parts = 0; ended = 0; taken = []; past = 0 }

-- one that was given back, or that nobody made
abbrev pub spent : Hand
spent = record { alone = false; live = false; own = false; made = 0; seats = 0; parts = 0; ended = 0; taken = []; past = 0 }

-- a number was pushed, or an end mark, whose part the owner's seat has
abbrev pub Pushed : Hand → List Ticket → Hand → Type 0
Pushed v [] w = ⊥
Pushed v (Number i ∷ []) w = w ≡ record v { made = v.made + 1 }
Pushed v (End ∷ []) w = w ≡ record v { seats = v.seats + 1; parts = v.parts + 1 }
Pushed v (x ∷ y ∷ xs) w = ⊥

-- the seat took a number, which is above all that it took before and not below the numbers that it knew to be taken, or
-- an end mark. It then knows that all numbers up to this one were taken, or all numbers
abbrev pub Took : Hand → List Ticket → Hand → Type 0
Took v [] w = ⊥
Took v (Number i ∷ []) w =
    (w ≡ record v { taken = v.taken ++ i ∷ []; past = i + 1 }) × (i < v.made) × (v.past ≤ i) × All (λ j. j < i) v.taken
Took v (End ∷ []) w = w ≡ record v { ended = v.ended + 1; past = v.made }
Took v (x ∷ y ∷ xs) w = ⊥

-- what stays with the maker of a seat, and what the new seat gets
abbrev pub kept : Hand → Hand
kept v = record v { alone = false; parts = v.parts - 1 }

abbrev pub cut : Hand → Hand
cut v = record v { alone = false; own = true; parts = 1; ended = 0; taken = [] }

-- a seat that has taken in another's takes
abbrev pub joined : Hand → Hand → Hand
joined v w =
    record v {
      alone = false;
      own = false;
      parts = v.parts + w.parts;
      ended = v.ended + w.ended;
      taken = v.taken ++ w.taken;
    }

-- its takes are 0 to n - 1, each once
abbrev pub TookAll : Hand → Type 0
TookAll v = (i : ℕ) → times i v.taken ≡ times i (first_numbers v.made)
