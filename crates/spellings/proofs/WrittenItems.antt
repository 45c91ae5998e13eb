-- The items of a brief that is written fit one after the other.
use Rattle.std.proofs.Common.{◌≡◌, ℕ, zero, suc, ◌+◌, ◌*◌, ◌/◌, ◌^◌, ◌<◌, ◌≤◌, false, List, [], ◌∷◌, ◌++◌, length, map, Some, None, is_some, refl, ap, sym, ◌∙◌, subst, arith, append_assoc, append-nil}
use Rattle.std.specs.Prelude.{nat_lt, unwrap_or}
use Rattle.std.specs.Int.{bit_at}
use Rattle.std.specs.List.{list_any, flat_map, fold}
use Rattle.std.specs.Map.{keys_of}
use Rattle.std.specs.Str.{bytes_eq}
use Rattle.std.proofs.lemmas.Bool.{lt-leb, le-ltb}
use Rattle.std.proofs.Math.Nat.{pow-suc, div-div-eq-div-mul}
use Rattle.std.proofs.lemmas.List.{length-map, map-append}
use Rattle.std.proofs.lemmas.List.Concat.{flat_map_single}
use Rattle.std.proofs.lemmas.List.Folds.{list_any_none}
use Rattle.std.proofs.lemmas.Nat.Bits.{bit_at_ones, bit_at-lt}
use Rattle.message_tree.specs.Bits.{bit_from, bits_below}
use Rattle.message_tree.specs.declared.bits.Bit.{Bit}
use Rattle.message_tree.specs.Patterns.{address_bits}
use Rattle.message_tree.specs.Trees.{FrameTree}
use Rattle.message_tree.proofs.BitLemmas.{bits_below-masked}
use Rattle.plan_core.specs.Building.{number_of, with_message, list_refusal, interrupt_refusal, with_interrupt, size_refusal}
use Rattle.plan_core.specs.Contents.{Contents}
use Rattle.plan_core.specs.Labels.{name_at}
use Rattle.plan_core.specs.Limits.{IsWithinLimits, sending_count}
use Rattle.plan_core.specs.declared.limits.TheConstants.{MOST_CONTROLLERS, MOST_SENDINGS}
use Rattle.plan_core.proofs.BuildingLemmas.{position-None, message_parts, controller_allowed, name_allowed}
use Rattle.plan_text.specs.Values.{address_by}
use Rattle.spellings.proofs.CanonicalItems.{up_to_messages, up_to_controllers, message_fits, controller_fits, interrupt_fits}
use Rattle.brief_text.specs.Codes.{at_start}
use Rattle.brief_text.specs.Drafts.{Draft, with_item, with_made}
use Rattle.brief_text.specs.Fitting.{Fits, ListFits, MakeUp}
use Rattle.brief_text.specs.Items.{listed_refusal}
use Rattle.brief_text.specs.Judging.{grouped_by, message_refusal_of, is_taken, controller_refusal_of, all_of, sendings, listing_refusal}
use Rattle.brief_text.specs.Splitting.{Part, whole, parts}
use Rattle.brief_text.specs.Trees.{Side, BriefItem}
use Rattle.brief_text.specs.Words.{known_number}
use Rattle.spellings.specs.Writing.{frame_brief, message_brief, controller_brief, interrupt_brief}
use Rattle.brief_text.proofs.GrowLemmas.{each_within}
use Rattle.brief_text.proofs.PathLemmas.{outline_of}
use Rattle.spellings.proofs.WrittenFrames.{frame_said, frame_known, frame_free, frame_plain}

-- ---- items of one kind, each of which fits what those before it make up

module _ {X : Type 0} (item : X → BriefItem) (draft_of : List X → Draft) (all : List X)
    (fits : (before : List X) (x : X) (after : List X) → before ++ (x ∷ after) ≡ all → Fits (draft_of before) (item x))
    (adds : (before : List X) (x : X) (after : List X) → before ++ (x ∷ after) ≡ all → with_item (draft_of before) (item x) ≡ draft_of (before ++ (x ∷ []))) where
  pub made_from : (before xs : List X) → before ++ xs ≡ all → (others : List BriefItem) (end : Draft) → MakeUp (draft_of all) others end → MakeUp (draft_of before) (map item xs ++ others) end
  made_from before [] e others end rest = subst (λ l. MakeUp (draft_of l) others end) (sym e ∙ append-nil before) rest
  made_from before (x ∷ xs) e others end rest =
      (fits before x xs e, subst (λ d. MakeUp d (map item xs ++ others) end) (sym (adds before x xs e)) (made_from (before ++ (x ∷ [])) xs (append_assoc before (x ∷ []) xs ∙ e) others end rest))

-- ---- the address of an interrupt

one_digit : (known b n : ℕ) (bits : List Bit) → known ≡ 1 → b < 2 → known_number n (bit_from known b ∷ bits) ≡ known_number (n * 2 + b) bits
one_digit known zero n bits e small = rw e (ap (λ m. known_number m bits) (omega arith))
one_digit known (suc zero) n bits e small = rw e refl
one_digit known (suc (suc b)) n bits e small = absurd (omega arith)

-- the digits above and the bits below make up the number
number_from : (k v : ℕ) → k ≤ 7 → known_number (v / 2 ^ k) (bits_below k 127 v) ≡ Some v
number_from zero v h = ap Some (omega arith)
number_from (suc k) v h =
    let half : v / 2 ^ suc k ≡ v / 2 ^ k / 2 = ap (λ m. v / m) (pow-suc 2 k) ∙ sym (div-div-eq-div-mul v (2 ^ k) 2) in
    let digits : v / 2 ^ suc k * 2 + bit_at v k ≡ v / 2 ^ k = omega (arith, half) in
    one_digit (bit_at 127 k) (bit_at v k) (v / 2 ^ suc k) (bits_below k 127 v) (bit_at_ones 7 k (omega arith)) (bit_at-lt v k)
    ∙ ap (λ m. known_number m (bits_below k 127 v)) digits
    ∙ number_from k v (omega arith)

pub interrupt_known : (address : ℕ) → address < 128 → known_number 0 (address_bits (address_by 127 address)) ≡ Some address
unfolding address_bits
interrupt_known address small =
    let none : address / 2 ^ 7 ≡ 0 = omega arith in
    ap (known_number 0) (bits_below-masked 7 127 address) ∙ ap (λ m. known_number m (bits_below 7 127 address)) (sym none) ∙ number_from 7 address (omega arith)

-- ---- names, where nothing has a label and no message is a family

same_names : (names : List (List ℕ)) → flat_map (λ (n : List ℕ). n ∷ []) names ≡ names
same_names [] = refl
same_names (n ∷ names) = ap (λ l. n ∷ l) (same_names names)

module _ (plan : Contents) where
  abbrev pub listed : List ℕ × List ℕ → List ℕ × List (List ℕ)
  listed c = (c.0, map (name_at plan.messages) c.1)

  abbrev pub sides : ℕ × ℕ → Side × Side
  sides n = (whole (name_at plan.controllers n.0), whole (name_at plan.controllers n.1))

  -- what so many of the items make up
  abbrev pub staged : List (List ℕ × FrameTree) → List (List ℕ × List ℕ) → List (List ℕ × ℕ) → List (ℕ × ℕ) → Draft
  staged ms cs is ns = record {
    devices = [];
    bytes = [];
    plan = record { messages = ms; controllers = []; interrupts = is; nevers = [] };
    families = [];
    groups = [];
    grouped = [];
    controllers = map listed cs;
    labels = [];
    nevers = map sides ns;
  }

  -- each controller is whole
  abbrev pub whole_part : List ℕ × List (List ℕ) → Part
  whole_part c = record { side = whole c.0; messages = c.1 }

  pub parts_are : (ms : List (List ℕ × FrameTree)) (cs : List (List ℕ × List ℕ)) (is : List (List ℕ × ℕ)) (ns : List (ℕ × ℕ)) → parts (staged ms cs is ns) ≡ map whole_part (map listed cs)
  unfolding parts
  parts_are ms cs is ns = flat_map_single whole_part (map listed cs)

  keys_listed : (cs : List (List ℕ × List ℕ)) → keys_of (map listed cs) ≡ keys_of cs
  keys_listed [] = refl
  keys_listed (c ∷ cs) = ap (λ l. c.0 ∷ l) (keys_listed cs)

  sums : (n : ℕ) (cs : List (List ℕ × List ℕ)) → fold (λ (a : ℕ) (c : List ℕ × List (List ℕ)). a + length c.1) n (map listed cs) ≡ fold (λ (a : ℕ) (c : List ℕ × List ℕ). a + length c.1) n cs
  sums n [] = refl
  sums n (c ∷ cs) = ap (λ m. fold (λ (a : ℕ) (c : List ℕ × List (List ℕ)). a + length c.1) (n + m) (map listed cs)) (length-map c.1 (name_at plan.messages)) ∙ sums (n + length c.1) cs

  module _ (limits : IsWithinLimits plan) where
    -- ---- messages

    module _ (before : List (List ℕ × FrameTree)) (x : List ℕ × FrameTree) (after : List (List ℕ × FrameTree)) (split : before ++ (x ∷ after) ≡ plan.messages) where
      pub message_fits_here : Fits (staged before [] [] []) (message_brief x)
      unfolding message_refusal_of
      message_fits_here =
          let fit = message_parts (up_to_messages before) x.0 x.1 (message_fits plan limits before x after split) in
          let d = staged before [] [] [] in
          record {
            new = fit.0;
            knows = frame_known d x.1;
            ranges = frame_free x.1;
            members = tt;
            grouped = ap (λ (groups : List (List ℕ)). grouped_by d x.0 None groups 0 None) (frame_plain d x.1);
            each = each_within d x.0 None (frame_brief x.1) (outline_of d 1 (frame_brief x.1) (ap size_refusal (frame_said d 1 x.1 at_start) ∙ fit.1));
          }

      pub message_adds_here : with_item (staged before [] [] []) (message_brief x) ≡ staged (before ++ (x ∷ [])) [] [] []
      unfolding with_item with_message
      message_adds_here =
          ap (with_made (staged before [] [] []) x.0 None (frame_brief x.1)) (frame_plain (staged before [] [] []) x.1)
          ∙ (λ i. staged (before ++ ((x.0, frame_said (staged before [] [] []) 1 x.1 at_start i) ∷ [])) [] [] [])

    -- ---- controllers

    module _ (before : List (List ℕ × List ℕ)) (x : List ℕ × List ℕ) (after : List (List ℕ × List ℕ)) (split : before ++ (x ∷ after) ≡ plan.controllers) where
      abbrev here : Draft
      here = staged plan.messages before [] []

      all_are : (names : List (List ℕ)) → all_of here names ≡ names
      all_are names = same_names names

      sendings_are : sendings here ≡ sending_count before
      sendings_are = sums 0 before

      listing : (first : List (List ℕ)) (n : List ℕ) (k : ℕ) → number_of n plan.messages ≡ Some k → list_any (λ other. bytes_eq other n) first ≡ false → sending_count before + length first < MOST_SENDINGS → listing_refusal here [] (all_of here first) n ≡ None
      unfolding listing_refusal
      listing first n k known new few =
          let room : nat_lt MOST_SENDINGS (sending_count before + length first + 1) ≡ false = le-ltb MOST_SENDINGS (sending_count before + length first + 1) (omega (arith, few)) in
          rw (known, all_are first, new, sendings_are, room) refl

      may_list : (first names : List (List ℕ)) → list_refusal (up_to_controllers plan before) first names ≡ None → ListFits (listed_refusal here []) first names
      may_list first [] e = tt
      may_list first (n ∷ names) e =
          let a = name_allowed (up_to_controllers plan before) first n names e in
          (listing first n a.0.0 a.0.1 a.1 a.2, may_list (first ++ (n ∷ [])) names a.3)

      may_stand : number_of x.0 before ≡ None → length before < MOST_CONTROLLERS → controller_refusal_of here x.0 ≡ None
      unfolding controller_refusal_of
      may_stand new few =
          let others : list_any (bytes_eq x.0) (keys_of before) ≡ false = list_any_none (bytes_eq x.0) (keys_of before) (position-None (bytes_eq x.0) (keys_of before) new) in
          let taken : is_taken here x.0 ≡ false = ap (list_any (bytes_eq x.0)) (append-nil (keys_of (map listed before)) ∙ keys_listed before) ∙ others in
          let count : length (parts here) ≡ length before = ap length (parts_are plan.messages before [] []) ∙ length-map (map listed before) whole_part ∙ length-map before listed in
          rw (taken, count, lt-leb MOST_CONTROLLERS (length before) few) refl

      pub controller_fits_here : Fits here (controller_brief plan x)
      controller_fits_here =
          let allowed = controller_allowed (up_to_controllers plan before) x.0 (map (name_at plan.messages) x.1) (controller_fits plan limits before x after split) in
          (may_stand allowed.0 allowed.1, may_list [] (map (name_at plan.messages) x.1) allowed.2)

      pub controller_adds_here : with_item here (controller_brief plan x) ≡ staged plan.messages (before ++ (x ∷ [])) [] []
      unfolding with_item
      controller_adds_here =
          ap (λ (cs : List (List ℕ × List (List ℕ))). record here { controllers = cs })
          (ap (λ (ns : List (List ℕ)). map listed before ++ ((x.0, ns) ∷ [])) (same_names (map (name_at plan.messages) x.1)) ∙ sym (map-append listed before (x ∷ [])))

    -- ---- interrupts

    module _ (before : List (List ℕ × ℕ)) (x : List ℕ × ℕ) (after : List (List ℕ × ℕ)) (split : before ++ (x ∷ after) ≡ plan.interrupts) where
      pub interrupt_fits_here : Fits (staged plan.messages plan.controllers before []) (interrupt_brief x)
      unfolding interrupt_refusal
      interrupt_fits_here =
          let fit = interrupt_fits plan limits before x after split in
          (fit.0, refl, ap is_some (interrupt_known x.1 fit.1))

      pub interrupt_adds_here : with_item (staged plan.messages plan.controllers before []) (interrupt_brief x) ≡ staged plan.messages plan.controllers (before ++ (x ∷ [])) []
      unfolding with_item with_interrupt
      interrupt_adds_here =
          let number = interrupt_known x.1 (interrupt_fits plan limits before x after split).1 in
          λ i. staged plan.messages plan.controllers (before ++ ((x.0, unwrap_or (number i) 0) ∷ [])) []
