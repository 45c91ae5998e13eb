-- What a plan holds after an entry has been added.
use Rattle.std.proofs.Common.{◌≡◌, ◌⊎◌, inl, inr, ℕ, ◌+◌, ◌<◌, ◌≤◌, Bool, List, [], ◌∷◌, ◌++◌, length, get_or, take, map, None, ◌||◌, refl, sym, ◌∙◌, ap, subst}
use Rattle.std.specs.List.{range_with_len, list_any, cons_option}
use Rattle.std.specs.Vec.{vec_items}
use Rattle.std.specs.declared.vec.Vec.{Vec}
use Rattle.std.proofs.lemmas.List.{map_push, map_more, take_at}
use Rattle.std.proofs.lemmas.List.Elements.{filter_map-append}
use Rattle.message_tree.specs.declared.tree.Frame.{Frame}
use Rattle.message_tree.specs.Trees.{FrameTree, frame_tree}
use Rattle.plan_core.specs.declared.names.Name.{Name}
use Rattle.plan_core.specs.declared.pairs.PairTable.{PairTable}
use Rattle.plan_core.specs.declared.plans.Participant.{Participant}
use Rattle.plan_core.specs.declared.plans.Participant.TheVariants.{Interrupt}
use Rattle.plan_core.specs.NameBytes.{name_bytes}
use Rattle.plan_core.specs.Building.{number_of, numbers_of, controller_number, message_refusal, with_message, controller_refusal, with_sender, interrupt_refusal, with_interrupt, with_never}
use Rattle.plan_core.specs.Contents.{Contents}
use Rattle.plan_core.specs.Limits.{IsWithinLimits, sending_count}
use Rattle.plan_core.specs.Names.{IsName}
use Rattle.plan_core.specs.PairTables.{are_apart, IsTable, IsPairTable}
use Rattle.plan_core.specs.Participants.{participants_of, participant_count, sendings_from, same_controller, forbidden}
use Rattle.plan_core.specs.Parts.{contents_of, message_of, controller_of, interrupt_of}
use Rattle.plan_core.proofs.BuildingLemmas.{limits-message, limits-controller, limits-interrupt}
use Rattle.plan_core.proofs.ContentsLemmas.{participant_count-few, participants_of-interrupt, length-sendings_from}

-- the participants of a plan that is within the limits
pub record IsNumbered (participants : List Participant) (plan : Contents) : Type 0 where
  pub limits : IsWithinLimits plan
  pub numbered : participants ≡ participants_of plan

module _ {Z : Type 0} (messages : List (Name × Frame)) (controllers : List (Name × Vec ℕ Z)) (interrupts : List (Name × ℕ)) (nevers : List (ℕ × ℕ)) where
  pub contents_of-message : (new : List (Name × Frame)) (name : Name) (frame : Frame) → new ≡ messages ++ (name, frame) ∷ [] → contents_of new controllers interrupts nevers ≡ with_message (contents_of messages controllers interrupts nevers) (name_bytes name) (frame_tree frame)
  unfolding contents_of with_message
  contents_of-message new name frame e =
      ap (λ ms. record { messages = ms; controllers = map controller_of controllers; interrupts = map interrupt_of interrupts; nevers = nevers }) (ap (map message_of) e ∙ map_push message_of messages (name, frame))

  pub contents_of-messages : (new : List (Name × Frame)) → new ≡ messages → contents_of new controllers interrupts nevers ≡ contents_of messages controllers interrupts nevers
  contents_of-messages new e = ap (λ ms. contents_of ms controllers interrupts nevers) e

  pub contents_of-controller : (new : List (Name × Vec ℕ Z)) (name : Name) (numbers : Vec ℕ Z) → new ≡ controllers ++ (name, numbers) ∷ [] → contents_of messages new interrupts nevers ≡ with_sender (contents_of messages controllers interrupts nevers) (name_bytes name) (vec_items numbers)
  unfolding contents_of with_sender
  contents_of-controller new name numbers e =
      ap (λ cs. record { messages = map message_of messages; controllers = cs; interrupts = map interrupt_of interrupts; nevers = nevers }) (ap (map controller_of) e ∙ map_push controller_of controllers (name, numbers))

  pub contents_of-interrupt : (new : List (Name × ℕ)) (name : Name) (address : ℕ) → new ≡ interrupts ++ (name, address) ∷ [] → contents_of messages controllers new nevers ≡ with_interrupt (contents_of messages controllers interrupts nevers) (name_bytes name) address
  unfolding contents_of with_interrupt
  contents_of-interrupt new name address e =
      ap (λ ts. record { messages = map message_of messages; controllers = map controller_of controllers; interrupts = ts; nevers = nevers }) (ap (map interrupt_of) e ∙ map_push interrupt_of interrupts (name, address))

-- a message more leaves the participants
pub IsNumbered-message : (participants : List Participant) (plan new : Contents) (name : List ℕ) (frame : FrameTree) → IsNumbered participants plan → IsName name → message_refusal plan name frame ≡ None → (new ≡ with_message plan name frame) ⊎ (new ≡ plan) → IsNumbered participants new
unfolding with_message
IsNumbered-message participants plan new name frame is formed none (inl e) = record { limits = subst IsWithinLimits (sym e) (limits-message plan name frame is.limits formed none); numbered = is.numbered ∙ ap participants_of (sym e) }
IsNumbered-message participants plan new name frame is formed none (inr e) = subst (IsNumbered participants) (sym e) is

-- the table of the participants and the nevers of a plan
pub IsPairTable-made : (nevers : List (ℕ × ℕ)) (participants : List Participant) (plan : Contents) (table : PairTable) → nevers ≡ plan.nevers → participants ≡ participants_of plan → IsTable (are_apart nevers participants) (length participants) (length participants) table → IsPairTable plan table
unfolding same_controller forbidden
IsPairTable-made nevers participants plan table n p is =
    subst (λ ns. IsTable (are_apart ns (participants_of plan)) (participant_count plan) (participant_count plan) table) n (subst (λ ps. IsTable (are_apart nevers ps) (length ps) (length ps) table) p is)

-- at most 544 participants
pub IsNumbered-few : (participants : List Participant) (plan : Contents) → IsNumbered participants plan → length participants ≤ 544
IsNumbered-few participants plan is = subst (λ n. n ≤ 544) (sym (ap length is.numbered)) (participant_count-few plan is.limits)

pub IsNumbered-interrupt : (participants rest new : List Participant) (plan : Contents) (name : List ℕ) (address k : ℕ) → IsNumbered participants plan → IsName name → address < 128 → interrupt_refusal plan name ≡ None → rest ≡ participants → k ≡ length plan.interrupts → new ≡ rest ++ Interrupt k ∷ [] → IsNumbered new (with_interrupt plan name address)
IsNumbered-interrupt participants rest new plan name address k is formed small none same number e = record {
  limits = limits-interrupt plan name address is.limits formed small none;
  numbered = e ∙ ap (λ xs. xs ++ Interrupt k ∷ []) (same ∙ is.numbered) ∙ ap (λ n. participants_of plan ++ Interrupt n ∷ []) number ∙ sym (participants_of-interrupt plan name address);
}

-- the first sendings of a plan's participants are all of them
pub take-sendings : (participants : List Participant) (plan : Contents) (n : ℕ) → participants ≡ participants_of plan → n ≡ sending_count plan.controllers → take n participants ≡ sendings_from 0 plan.controllers
take-sendings participants plan n numbered count =
    ap (take n) numbered ∙ take_at (sendings_from 0 plan.controllers) (map Interrupt (range_with_len 0 (length plan.interrupts))) n (length-sendings_from 0 plan.controllers ∙ sym count)

pub IsNumbered-controller : (new : List Participant) (plan : Contents) (name : List ℕ) (names : List (List ℕ)) (numbers : List ℕ) → IsWithinLimits plan → IsName name → controller_refusal plan name names ≡ None → numbers ≡ numbers_of plan names → new ≡ participants_of (with_sender plan name numbers) → IsNumbered new (with_sender plan name numbers)
IsNumbered-controller new plan name names numbers limits formed none same e = record {
  limits = subst (λ ns. IsWithinLimits (with_sender plan name ns)) (sym same) (limits-controller plan name names limits formed none);
  numbered = e;
}

module _ {Z : Type 0} (messages : List (Name × Frame)) (controllers : List (Name × Vec ℕ Z)) (interrupts : List (Name × ℕ)) (nevers : List (ℕ × ℕ)) where
  pub contents_of-never : (new : List (ℕ × ℕ)) (first second : List ℕ) (c d : ℕ) → new ≡ nevers ++ (c, d) ∷ [] → c ≡ controller_number (contents_of messages controllers interrupts nevers) first → d ≡ controller_number (contents_of messages controllers interrupts nevers) second → contents_of messages controllers interrupts new ≡ with_never (contents_of messages controllers interrupts nevers) first second
  unfolding contents_of with_never
  contents_of-never new first second c d e at_first at_second =
      ap (λ ns. record { messages = map message_of messages; controllers = map controller_of controllers; interrupts = map interrupt_of interrupts; nevers = ns }) (e ∙ (λ i. nevers ++ (at_first i, at_second i) ∷ []))

pub participants_of-never : (plan : Contents) (first second : List ℕ) → participants_of (with_never plan first second) ≡ participants_of plan
unfolding with_never
participants_of-never plan first second = refl

-- the numbers of the messages with these names, one name more
pub numbers_of-more : (plan : Contents) (names : List Name) (i : ℕ) (d : Name) → i < length names → numbers_of plan (map name_bytes (take (i + 1) names)) ≡ numbers_of plan (map name_bytes (take i names)) ++ cons_option (number_of (name_bytes (get_or names i d)) plan.messages) []
numbers_of-more plan names i d within =
    ap (numbers_of plan) (map_more name_bytes names i d within)
    ∙ filter_map-append (λ name. number_of name plan.messages) (map name_bytes (take i names)) (name_bytes (get_or names i d) ∷ [])

-- a test of each element of a list made by a function
pub list_any-map : {X Y : Type 0} (p : Y → Bool) (f : X → Y) (xs : List X) → list_any p (map f xs) ≡ list_any (λ x. p (f x)) xs
list_any-map p f [] = refl
list_any-map p f (x ∷ xs) = ap (λ b. p (f x) || b) (list_any-map p f xs)
