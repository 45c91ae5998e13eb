-- Each item that is read is spelled so, and fits.
use Rattle.std.proofs.Common.{◌≡◌, ℕ, ◌+◌, ◌<◌, ◌≤◌, List, [], ◌∷◌, ◌++◌, Option, Some, None, is_some, refl, ap, sym, ◌∙◌, subst, arith, append-nil, append_assoc}
use Rattle.std.specs.Prelude.{◌*◌, Bool, true, false, not, nat_lt, length, Ok, Err, if◌then◌else◌}
use Rattle.std.specs.List.{list_any}
use Rattle.std.specs.Str.{bytes_eq}
use Rattle.message_tree.specs.Patterns.{address_bits}
use Rattle.message_tree.specs.Sizes.{frame_nodes}
use Rattle.message_tree.specs.declared.bits.Address.{Address}
use Rattle.message_tree.specs.declared.bits.Pattern.{Pattern}
use Rattle.plan_core.specs.Building.{interrupt_refusal}
use Rattle.plan_core.specs.declared.limits.TheConstants.{MOST_BYTES, MOST_NODES, MOST_MESSAGES}
use Rattle.plan_core.proofs.BuildingLemmas.{size_fits}
use Rattle.plan_text.specs.Reader.{◌>>=◌, or_refused, unless_refused}
use Rattle.plan_text.specs.declared.errors.PlanError.TheVariants.{Unexpected}
use Rattle.plan_text.specs.declared.errors.PlanError.TheVariants as errors
use Rattle.plan_core.specs.declared.builder.BuildError.{BuildError}
use Rattle.brief_text.specs.declared.syntax.Lengths.{Lengths}
use Rattle.plan_text.proofs.TakesLemmas.{bind_ok, or_ok, ok_is}
use Rattle.lexer.specs.declared.lexemes.Letters.{Letters}
use Rattle.brief_tokens.specs.declared.symbols.Keyword.{Keyword}
use Rattle.brief_tokens.specs.declared.symbols.Keyword.TheVariants as keywords
use Rattle.brief_tokens.specs.declared.symbols.Sign.TheVariants as signs
use Rattle.brief_text.specs.Drafts.{Draft, address_said, frame_meant, frame_groups, devices_of, device_names, with_label}
use Rattle.brief_text.specs.Fitting.{Fits, ListFits}
use Rattle.brief_text.specs.Frames.{Around, frames_at}
use Rattle.brief_text.specs.Grammar.{one, SpellsName, SpellsNames, SpellsAs, SpellsItem}
use Rattle.brief_text.specs.Items.{address_in, pattern_in, device_at, byte_at, message_at, group_at, names_from, listed_refusal, controller_at, extend_at, interrupt_at, side_in, never_at, item_in, item_at}
use Rattle.brief_text.specs.Judging.{named_refusal, device_refusal, is_message, how_many, is_long, further_names, repeats, grouped_by, grouped_refusal, message_refusal_of, controller_refusal_of, extend_refusal_of, listed_by, first_refusal, second_refusal}
use Rattle.brief_text.specs.Places.{Place, Reads, token_as, end_in, past, name_in, name_at, to_at}
use Rattle.brief_tokens.specs.Tokens.{Token, keyword, word, sign, Tokens, next}
use Rattle.brief_tokens.specs.Tokens as tokens
use Rattle.brief_text.specs.Trees.{BriefFrame, Side, BriefItem, device, byte, device_group, message, controller, extend, interrupt, never_both}
use Rattle.brief_text.specs.Words.{address_by, data_by, known_number, side_by}
use Rattle.brief_text.proofs.FrameLemmas.{frames_take}
use Rattle.brief_text.proofs.GrowLemmas.{each_within}
use Rattle.brief_text.proofs.PartLemmas.{most_often, agrees_self}
use Rattle.brief_text.proofs.TakesLemmas.{done, Passed, spelled_takes, token_takes, past_takes, end_only, name_only, unless_ok, name_takes, to_takes}
use Rattle.brief_text.proofs.ValueLemmas.{size}

-- ---- words

address_only : (t : Token) (x : Address) (line : ℕ) (rest : Tokens) → address_in t ≡ Some x → (SpellsAs address_by x) (next t line rest) rest
address_only (word bytes) x line rest e = (bytes, (line, refl), e)
address_only t x line rest e = absurd cc

pattern_only : (t : Token) (x : Pattern) (line : ℕ) (rest : Tokens) → pattern_in t ≡ Some x → (SpellsAs data_by x) (next t line rest) rest
pattern_only (word bytes) x line rest e = (bytes, (line, refl), e)
pattern_only t x line rest e = absurd cc

side_only : (l : Letters) (t : Token) (x : Side) (line : ℕ) (rest : Tokens) → side_in l t ≡ Some x → (SpellsAs (side_by l) x) (next t line rest) rest
side_only l (word bytes) x line rest e = (bytes, (line, refl), e)
side_only l t x line rest e = absurd cc

end_takes : (at after : Place) → past end_in at ≡ Ok after → Passed (one (sign signs.Semicolon)) at after
end_takes = past_takes end_in (sign signs.Semicolon) end_only

-- ---- what a controller lists, and the devices of a group

-- names after these, up to `;`
record Listed (refusal : List (List ℕ) → List ℕ → Option BuildError) (before : List (List ℕ)) (from : Tokens) (x : List (List ℕ) × Place) : Type 0 where
  names : List (List ℕ)
  between : Tokens
  all : x.0 ≡ before ++ names
  spelled : SpellsNames names from between
  end : one (sign signs.Semicolon) between x.1.tokens
  fits : ListFits refusal before names
  fewer : size x.1.tokens < size from

names_take : (from : Tokens) (refusal : List (List ℕ) → List ℕ → Option BuildError) (before : List (List ℕ)) (at : Place) (x : List (List ℕ) × Place) → names_from refusal before from at ≡ Ok x → Listed refusal before from x
names_take (next (sign signs.Semicolon) line rest) refusal before at x e =
    subst (Listed refusal before (next (sign signs.Semicolon) line rest)) (ok_is (before, record at { tokens = rest }) x e)
    record { names = []; between = next (sign signs.Semicolon) line rest; all = sym (append-nil before); spelled = refl; end = (line, refl); fits = tt; fewer = omega arith }
names_take (next (word bytes) line rest) refusal before at x e =
    let name = bind_ok (or_refused (name_in (word bytes)) (Unexpected line)) (λ name. unless_refused (refusal before name) line name >>= λ allowed. names_from refusal (before ++ allowed ∷ []) rest (record at { tokens = rest })) x e in
    let allowed = bind_ok (unless_refused (refusal before name.0) line name.0) (λ allowed. names_from refusal (before ++ allowed ∷ []) rest (record at { tokens = rest })) x name.2 in
    let free = unless_ok (refusal before name.0) line name.0 allowed.0 allowed.1 in
    let spelled = name_only (word bytes) name.0 line rest (or_ok (name_in (word bytes)) (Unexpected line) name.0 name.1) in
    let more = names_take rest refusal (before ++ allowed.0 ∷ []) (record at { tokens = rest }) x allowed.2 in
    record {
      names = allowed.0 ∷ more.names;
      between = more.between;
      all = more.all ∙ append_assoc before (allowed.0 ∷ []) more.names;
      spelled = (rest, subst (λ (n : List ℕ). SpellsName n (next (word bytes) line rest) rest) free.1 spelled, more.spelled);
      end = more.end;
      fits = (subst (λ (n : List ℕ). refusal before n ≡ None) free.1 free.0, more.fits);
      fewer = omega (arith, more.fewer);
    }
names_take (next (keyword k) line rest) refusal before at x e = absurd cc
names_take (next (sign s) line rest) refusal before at x e = absurd cc
names_take (next (tokens.quoted q) line rest) refusal before at x e = absurd cc
names_take (next (tokens.span l u) line rest) refusal before at x e = absurd cc
names_take (tokens.last ending line) refusal before at x e = absurd cc

-- ---- what a message makes by a group

semicolon_takes : (at : Place) (x : Unit {0} × ℕ × Place) → token_as end_in at ≡ Ok x → Passed (one (sign signs.Semicolon)) at x.2
semicolon_takes = spelled_takes end_in (λ _. one (sign signs.Semicolon)) (λ t u line rest h. (line, ap (λ (k : Token). next k line rest) (end_only t h)))

-- no name that is made is refused
grouped_takes : (draft : Draft) (name : List ℕ) (range : Option Lengths) (groups : List (List ℕ)) (line : ℕ) (x y : Place) → grouped_by draft name range groups line x ≡ Ok y → (x ≡ y) × (grouped_by draft name range groups 0 range ≡ Ok range)
grouped_takes draft name range [] line x y e = (ok_is x y e, refl)
grouped_takes draft name range (group ∷ others) line x y e =
    by_tests (list_any (λ other. not (bytes_eq other group)) others) (nat_lt MOST_MESSAGES (length (devices_of draft group)))
    (nat_lt MOST_MESSAGES (length draft.plan.messages + length (devices_of draft group) * how_many range)) (list_any (is_long range) (device_names draft name group))
    (list_any (is_message draft) (further_names range (device_names draft name group))) (repeats (further_names range (device_names draft name group))) e
  where
    by_tests : (a b c d k m : Bool) → (if a then Err (Unexpected line) else if b then Err (errors.TooMany line) else if c then Err (errors.TooMany line) else if d then Err (Unexpected line) else if k then Err (errors.Twice line) else if m then Err (errors.Twice line) else Ok x) ≡ Ok y
        → (x ≡ y) × ((if a then Err (Unexpected 0) else if b then Err (errors.TooMany 0) else if c then Err (errors.TooMany 0) else if d then Err (Unexpected 0) else if k then Err (errors.Twice 0) else if m then Err (errors.Twice 0) else Ok range) ≡ done range)
    by_tests false false false false false false h = (ok_is x y h, refl)
    by_tests true b c d k m h = absurd cc
    by_tests false true c d k m h = absurd cc
    by_tests false false true d k m h = absurd cc
    by_tests false false false true k m h = absurd cc
    by_tests false false false false true m h = absurd cc
    by_tests false false false false false true h = absurd cc

abbrev item_before : List ℕ → BriefFrame → Place → BriefItem × Place
item_before name frame at = (message name at.range frame, at)

-- ---- items

pub record ItemTaken (l : Letters) (draft : Draft) (at : Place) (x : BriefItem × Place) : Type 0 where
  pub fits : Fits draft x.0
  pub spelled : SpellsItem l x.0 at.tokens x.1.tokens
  pub fewer : size x.1.tokens < size at.tokens

module _ (l : Letters) (draft : Draft) (from at : Place) (x : BriefItem × Place) where
  abbrev Starts : Keyword → Type 0
  Starts k = Passed (one (keyword k)) from at

  device_takes : Starts keywords.Device → device_at draft at ≡ Ok x → ItemTaken l draft from x
  unfolding device_at
  device_takes start e =
      let name = bind_ok (name_at (named_refusal draft.devices) at) (λ name. token_as address_in name.1 >>= λ address. past end_in address.2 >>= λ after. Ok (device name.0 address.0, after)) x e in
      let address = bind_ok (token_as address_in name.0.1) (λ address. past end_in address.2 >>= λ after. Ok (device name.0.0 address.0, after)) x name.2 in
      let after = bind_ok (past end_in address.0.2) (λ after. Ok (device name.0.0 address.0.0, after)) x address.2 in
      let n = name_takes (named_refusal draft.devices) at name.0 name.1 in
      let a = spelled_takes address_in (SpellsAs address_by) address_only name.0.1 address.0 address.1 in
      let end = end_takes address.0.2 after.0 after.1 in
      subst (ItemTaken l draft from) (ok_is (device name.0.0 address.0.0, after.0) x after.2)
      record {
        fits = n.1;
        spelled = (at.tokens, start.spelled, (name.0.1.tokens, n.0.spelled, (address.0.2.tokens, a.spelled, end.spelled)));
        fewer = omega (arith, start.fewer, n.0.fewer, a.fewer, end.fewer);
      }

  byte_takes : Starts keywords.Byte → byte_at draft at ≡ Ok x → ItemTaken l draft from x
  unfolding byte_at
  byte_takes start e =
      let name = bind_ok (name_at (named_refusal draft.bytes) at) (λ name. token_as pattern_in name.1 >>= λ bits. past end_in bits.2 >>= λ after. Ok (byte name.0 bits.0, after)) x e in
      let bits = bind_ok (token_as pattern_in name.0.1) (λ bits. past end_in bits.2 >>= λ after. Ok (byte name.0.0 bits.0, after)) x name.2 in
      let after = bind_ok (past end_in bits.0.2) (λ after. Ok (byte name.0.0 bits.0.0, after)) x bits.2 in
      let n = name_takes (named_refusal draft.bytes) at name.0 name.1 in
      let b = spelled_takes pattern_in (SpellsAs data_by) pattern_only name.0.1 bits.0 bits.1 in
      let end = end_takes bits.0.2 after.0 after.1 in
      subst (ItemTaken l draft from) (ok_is (byte name.0.0 bits.0.0, after.0) x after.2)
      record {
        fits = n.1;
        spelled = (at.tokens, start.spelled, (name.0.1.tokens, n.0.spelled, (bits.0.2.tokens, b.spelled, end.spelled)));
        fewer = omega (arith, start.fewer, n.0.fewer, b.fewer, end.fewer);
      }

  group_takes : Starts keywords.Group → group_at draft at ≡ Ok x → ItemTaken l draft from x
  unfolding group_at
  group_takes start e =
      let name = bind_ok (name_at (named_refusal draft.devices) at) (λ name. name_at (device_refusal draft []) name.1 >>= λ first. names_from (device_refusal draft) (first.0 ∷ []) first.1.tokens first.1 >>= λ devices. Ok (device_group name.0 devices.0, devices.1)) x e in
      let first = bind_ok (name_at (device_refusal draft []) name.0.1) (λ first. names_from (device_refusal draft) (first.0 ∷ []) first.1.tokens first.1 >>= λ devices. Ok (device_group name.0.0 devices.0, devices.1)) x name.2 in
      let list = bind_ok (names_from (device_refusal draft) (first.0.0 ∷ []) first.0.1.tokens first.0.1) (λ devices. Ok (device_group name.0.0 devices.0, devices.1)) x first.2 in
      let n = name_takes (named_refusal draft.devices) at name.0 name.1 in
      let d = name_takes (device_refusal draft []) name.0.1 first.0 first.1 in
      let m = names_take first.0.1.tokens (device_refusal draft) (first.0.0 ∷ []) first.0.1 list.0 list.1 in
      subst (ItemTaken l draft from) (ap (λ (names : List (List ℕ)). (device_group name.0.0 names, list.0.1)) (sym m.all) ∙ ok_is (device_group name.0.0 list.0.0, list.0.1) x list.2)
      record {
        fits = (n.1, (d.1, m.fits));
        spelled = (at.tokens, start.spelled, (name.0.1.tokens, n.0.spelled, (m.between, (first.0.1.tokens, d.0.spelled, m.spelled), m.end)));
        fewer = omega (arith, start.fewer, n.0.fewer, d.0.fewer, m.fewer);
      }

  message_takes : Starts keywords.Message → message_at draft at ≡ Ok x → ItemTaken l draft from x
  unfolding message_at
  message_takes start e =
      let name = bind_ok (name_at (message_refusal_of draft) at) (λ name. frames_at (record { draft = draft; name = name.0 }) MOST_BYTES 1 (record name.1 { nodes = 0; range = None }) >>= λ frames. token_as end_in frames.1 >>= λ end. grouped_refusal draft name.0 end.2.range frames.0 end.1 end.2 >>= λ after. Ok (message name.0 after.range frames.0, after)) x e in
      by_name name.0.0 name.0.1 (name_takes (message_refusal_of draft) at name.0 name.1) name.2
    where
      by_name : (name : List ℕ) (mid : Place) → Passed (SpellsName name) at mid × (message_refusal_of draft name ≡ None)
          → (frames_at (record { draft = draft; name = name }) MOST_BYTES 1 (record mid { nodes = 0; range = None }) >>= λ frames. token_as end_in frames.1 >>= λ end. grouped_refusal draft name end.2.range frames.0 end.1 end.2 >>= λ after. Ok (message name after.range frames.0, after)) ≡ Ok x → ItemTaken l draft from x
      by_name name mid n h =
          let g : Around = record { draft = draft; name = name } in
          let begin : Place = record mid { nodes = 0; range = None } in
          let frame = bind_ok (frames_at g MOST_BYTES 1 begin) (λ frames. token_as end_in frames.1 >>= λ end. grouped_refusal draft name end.2.range frames.0 end.1 end.2 >>= λ after. Ok (message name after.range frames.0, after)) x h in
          let last = bind_ok (token_as end_in frame.0.1) (λ end. grouped_refusal draft name end.2.range frame.0.0 end.1 end.2 >>= λ after. Ok (message name after.range frame.0.0, after)) x frame.2 in
          let after = bind_ok (grouped_refusal draft name last.0.2.range frame.0.0 last.0.1 last.0.2) (λ after. Ok (message name after.range frame.0.0, after)) x last.2 in
          let free = grouped_takes draft name last.0.2.range (frame_groups draft frame.0.0) last.0.1 last.0.2 after.0 after.1 in
          let end = semicolon_takes frame.0.1 last.0 last.1 in
          let R = frame.0.1.range in
          let f = frames_take g R MOST_BYTES 1 begin frame.0 frame.1 (agrees_self R) in
          let limit = f.part.limit (omega arith) in
          let small : frame_nodes (frame_meant draft (most_often R) frame.0.0) ≤ MOST_NODES = omega (arith, limit, f.part.count) in
          let same : (message name last.0.2.range frame.0.0, last.0.2) ≡ x = ap (λ (y : Place). item_before name frame.0.0 y) free.0 ∙ ok_is (message name after.0.range frame.0.0, after.0) x after.2 in
          subst (ItemTaken l draft from) same
          (subst (λ (o : Option _). ItemTaken l draft from (message name o frame.0.0, last.0.2)) (sym end.kept.range)
          record {
            fits = record {
              new = n.1;
              knows = f.known;
              ranges = omega (arith, f.part.found);
              members = f.part.allowed tt;
              grouped = subst (λ (o : Option _). grouped_by draft name o (frame_groups draft frame.0.0) 0 o ≡ Ok o) end.kept.range free.1;
              each = each_within draft name R frame.0.0 (size_fits (frame_meant draft (most_often R) frame.0.0) f.path small);
            };
            spelled = (at.tokens, start.spelled, (mid.tokens, n.0.spelled, (frame.0.1.tokens, f.part.spelled, end.spelled)));
            fewer = omega (arith, start.fewer, n.0.fewer, f.part.fewer, end.fewer);
          })

  controller_takes : Starts keywords.Controller → controller_at draft at ≡ Ok x → ItemTaken l draft from x
  unfolding controller_at
  controller_takes start e =
      let name = bind_ok (name_at (controller_refusal_of draft) at) (λ name. names_from (listed_refusal draft []) [] name.1.tokens name.1 >>= λ messages. Ok (controller name.0 messages.0, messages.1)) x e in
      let list = bind_ok (names_from (listed_refusal draft []) [] name.0.1.tokens name.0.1) (λ messages. Ok (controller name.0.0 messages.0, messages.1)) x name.2 in
      let n = name_takes (controller_refusal_of draft) at name.0 name.1 in
      let m = names_take name.0.1.tokens (listed_refusal draft []) [] name.0.1 list.0 list.1 in
      subst (ItemTaken l draft from) (ap (λ (names : List (List ℕ)). (controller name.0.0 names, list.0.1)) (sym m.all) ∙ ok_is (controller name.0.0 list.0.0, list.0.1) x list.2)
      record {
        fits = (n.1, m.fits);
        spelled = (at.tokens, start.spelled, (name.0.1.tokens, n.0.spelled, (m.between, m.spelled, m.end)));
        fewer = omega (arith, start.fewer, n.0.fewer, m.fewer);
      }

  extend_takes : Starts keywords.Extend → extend_at draft at ≡ Ok x → ItemTaken l draft from x
  unfolding extend_at
  extend_takes start e =
      let name = bind_ok (name_at (extend_refusal_of draft) at) (λ name. names_from (listed_refusal draft (listed_by draft name.0)) [] name.1.tokens name.1 >>= λ messages. Ok (extend name.0 messages.0, messages.1)) x e in
      let list = bind_ok (names_from (listed_refusal draft (listed_by draft name.0.0)) [] name.0.1.tokens name.0.1) (λ messages. Ok (extend name.0.0 messages.0, messages.1)) x name.2 in
      let n = name_takes (extend_refusal_of draft) at name.0 name.1 in
      let m = names_take name.0.1.tokens (listed_refusal draft (listed_by draft name.0.0)) [] name.0.1 list.0 list.1 in
      subst (ItemTaken l draft from) (ap (λ (names : List (List ℕ)). (extend name.0.0 names, list.0.1)) (sym m.all) ∙ ok_is (extend name.0.0 list.0.0, list.0.1) x list.2)
      record {
        fits = (n.1, m.fits);
        spelled = (at.tokens, start.spelled, (name.0.1.tokens, n.0.spelled, (m.between, m.spelled, m.end)));
        fewer = omega (arith, start.fewer, n.0.fewer, m.fewer);
      }

  interrupt_takes : Starts keywords.Interrupt → interrupt_at draft at ≡ Ok x → ItemTaken l draft from x
  unfolding interrupt_at
  interrupt_takes start e =
      let name = bind_ok (name_at (interrupt_refusal draft.plan) at) (λ name. to_at draft name.1 >>= λ to. or_refused (known_number 0 (address_bits (address_said draft to.0))) (Unexpected to.1) >>= λ known. past end_in to.2 >>= λ after. Ok (interrupt name.0 to.0, after)) x e in
      let to = bind_ok (to_at draft name.0.1) (λ to. or_refused (known_number 0 (address_bits (address_said draft to.0))) (Unexpected to.1) >>= λ known. past end_in to.2 >>= λ after. Ok (interrupt name.0.0 to.0, after)) x name.2 in
      let known = bind_ok (or_refused (known_number 0 (address_bits (address_said draft to.0.0))) (Unexpected to.0.1)) (λ known. past end_in to.0.2 >>= λ after. Ok (interrupt name.0.0 to.0.0, after)) x to.2 in
      let after = bind_ok (past end_in to.0.2) (λ after. Ok (interrupt name.0.0 to.0.0, after)) x known.2 in
      let n = name_takes (interrupt_refusal draft.plan) at name.0 name.1 in
      let a = to_takes draft name.0.1 to.0 to.1 in
      let end = end_takes to.0.2 after.0 after.1 in
      let number = or_ok (known_number 0 (address_bits (address_said draft to.0.0))) (Unexpected to.0.1) known.0 known.1 in
      subst (ItemTaken l draft from) (ok_is (interrupt name.0.0 to.0.0, after.0) x after.2)
      record {
        fits = (n.1, a.1, ap is_some number);
        spelled = (at.tokens, start.spelled, (name.0.1.tokens, n.0.spelled, (to.0.2.tokens, a.0.spelled, end.spelled)));
        fewer = omega (arith, start.fewer, n.0.fewer, a.0.fewer, end.fewer);
      }

  never_takes : Starts keywords.Never → never_at l draft at ≡ Ok x → ItemTaken l draft from x
  unfolding never_at
  never_takes start e =
      let first = bind_ok (token_as (side_in l) at) (λ first. unless_refused (first_refusal draft first.0) first.1 (with_label draft first.0) >>= λ named. token_as (side_in l) first.2 >>= λ second. unless_refused (second_refusal named first.0 second.0) second.1 second.2 >>= λ allowed. past end_in allowed >>= λ after. Ok (never_both first.0 second.0, after)) x e in
      by_first first.0.0 first.0.1 first.0.2 (spelled_takes (side_in l) (SpellsAs (side_by l)) (side_only l) at first.0 first.1) first.2
    where
      by_first : (one_side : Side) (line : ℕ) (mid : Place) → Passed (SpellsAs (side_by l) one_side) at mid
          → (unless_refused (first_refusal draft one_side) line (with_label draft one_side) >>= λ named. token_as (side_in l) mid >>= λ second. unless_refused (second_refusal named one_side second.0) second.1 second.2 >>= λ allowed. past end_in allowed >>= λ after. Ok (never_both one_side second.0, after)) ≡ Ok x → ItemTaken l draft from x
      by_first one_side line mid a h =
          let named = bind_ok (unless_refused (first_refusal draft one_side) line (with_label draft one_side)) (λ named. token_as (side_in l) mid >>= λ second. unless_refused (second_refusal named one_side second.0) second.1 second.2 >>= λ allowed. past end_in allowed >>= λ after. Ok (never_both one_side second.0, after)) x h in
          let free = unless_ok (first_refusal draft one_side) line (with_label draft one_side) named.0 named.1 in
          let second = bind_ok (token_as (side_in l) mid) (λ second. unless_refused (second_refusal named.0 one_side second.0) second.1 second.2 >>= λ allowed. past end_in allowed >>= λ after. Ok (never_both one_side second.0, after)) x named.2 in
          let allowed = bind_ok (unless_refused (second_refusal named.0 one_side second.0.0) second.0.1 second.0.2) (λ allowed. past end_in allowed >>= λ after. Ok (never_both one_side second.0.0, after)) x second.2 in
          let open_too = unless_ok (second_refusal named.0 one_side second.0.0) second.0.1 second.0.2 allowed.0 allowed.1 in
          let after = bind_ok (past end_in allowed.0) (λ after. Ok (never_both one_side second.0.0, after)) x allowed.2 in
          let b = spelled_takes (side_in l) (SpellsAs (side_by l)) (side_only l) mid second.0 second.1 in
          let end = end_takes second.0.2 after.0 (ap (past end_in) open_too.1 ∙ after.1) in
          subst (ItemTaken l draft from) (ok_is (never_both one_side second.0.0, after.0) x after.2)
          record {
            fits = (free.0, subst (λ (d : Draft). second_refusal d one_side second.0.0 ≡ None) (sym free.1) open_too.0);
            spelled = (at.tokens, start.spelled, (mid.tokens, a.spelled, (second.0.2.tokens, b.spelled, end.spelled)));
            fewer = omega (arith, start.fewer, a.fewer, b.fewer, end.fewer);
          }

same_rule : (draft : Draft) (known rule : Draft → Place → Reads BriefItem) (mid : Place) → Some known ≡ Some rule → known draft mid ≡ rule draft mid
same_rule draft known rule mid is = let same : known ≡ rule = cc in ap (λ (r : Draft → Place → Reads BriefItem). r draft mid) same

pub item_takes : (l : Letters) (draft : Draft) (at : Place) (x : BriefItem × Place) → item_at l draft at ≡ Ok x → ItemTaken l draft at x
unfolding item_at
item_takes l draft at x e =
    let item = bind_ok (token_as (item_in l) at) (λ item. item.0 draft item.2) x e in
    let t = token_takes (item_in l) at item.0 item.1 in
    by_token t.token item.0.0 item.0.1 item.0.2 t.known (record { spelled = (item.0.1, t.first); kept = t.kept; fewer = t.fewer }) item.2
  where
    by_token : (token : Token) (rule : Draft → Place → Reads BriefItem) (line : ℕ) (mid : Place) → item_in l token ≡ Some rule → Passed (one token) at mid → rule draft mid ≡ Ok x → ItemTaken l draft at x
    by_token (keyword keywords.Device) rule line mid is start h = device_takes l draft at mid x start (same_rule draft device_at rule mid is ∙ h)
    by_token (keyword keywords.Byte) rule line mid is start h = byte_takes l draft at mid x start (same_rule draft byte_at rule mid is ∙ h)
    by_token (keyword keywords.Group) rule line mid is start h = group_takes l draft at mid x start (same_rule draft group_at rule mid is ∙ h)
    by_token (keyword keywords.Message) rule line mid is start h = message_takes l draft at mid x start (same_rule draft message_at rule mid is ∙ h)
    by_token (keyword keywords.Controller) rule line mid is start h = controller_takes l draft at mid x start (same_rule draft controller_at rule mid is ∙ h)
    by_token (keyword keywords.Extend) rule line mid is start h = extend_takes l draft at mid x start (same_rule draft extend_at rule mid is ∙ h)
    by_token (keyword keywords.Interrupt) rule line mid is start h = interrupt_takes l draft at mid x start (same_rule draft interrupt_at rule mid is ∙ h)
    by_token (keyword keywords.Never) rule line mid is start h = never_takes l draft at mid x start (same_rule draft (never_at l) rule mid is ∙ h)
    by_token token rule line mid is start h = absurd cc
