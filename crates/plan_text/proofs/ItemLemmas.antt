-- Items: what is read is spelled so, and the items of a text one after the other.
use Rattle.std.proofs.Common.{◌≡◌, ℕ, zero, suc, ◌<◌, List, [], ◌∷◌, ◌++◌, Option, Bool, true, false, Some, None, refl, ap, sym, ◌∙◌, subst, arith, append-nil, append_assoc, inl, inr}
use Rattle.std.specs.Prelude.{Result, Ok, Err, if◌then◌else◌}
use Rattle.lexer.specs.Lexemes.{text_end}
use Rattle.plan_core.specs.Building.{message_name_refusal, controller_name_refusal, list_refusal, interrupt_refusal, never_refusal, with_message, with_controller, with_interrupt, with_never}
use Rattle.plan_core.specs.Contents.{Contents}
use Rattle.plan_core.specs.Names.{IsName, is_name}
use Rattle.plan_core.specs.declared.builder.BuildError.{BuildError}
use Rattle.plan_core.specs.declared.limits.TheConstants.{MOST_BYTES}
use Rattle.plan_core.proofs.BuildingLemmas.{message_fits, controller_fits}
use Rattle.plan_text.specs.Symbols.{interrupt_word}
use Rattle.plan_text.specs.declared.errors.PlanError.{PlanError}
use Rattle.plan_text.specs.declared.errors.PlanError.TheVariants.{Unexpected}
use Rattle.plan_text.specs.declared.symbols.Keyword.TheVariants as keywords
use Rattle.plan_text.specs.declared.versions.Version.{Version}
use Rattle.plan_text.specs.declared.versions.Version.TheVariants as versions
use Rattle.plan_text.specs.Grammar.{one, SpellsName, SpellsNames, Item, message, controller, interrupt, never_both, SpellsItem, SpellsItems, Fits, with_item}
use Rattle.plan_text.specs.Reader.{Place, Reads, ◌>>=◌, or_refused, unless_refused, token_as, end_at, known_address_in, known_address_at, frame_at, name_in, name_at, sendings_from, unknown_controller, message_at, controller_at, interrupt_at, never_at, item_in, item_at, is_end, items_in, items_at, size, refused_at}
use Rattle.plan_text.specs.Places.{before, Refuses}
use Rattle.plan_text.specs.Reading.{with_symbol}
use Rattle.plan_text.specs.declared.symbols.Symbol.{Symbol}
use Rattle.plan_text.specs.declared.symbols.Symbol.TheVariants as symbols
use Rattle.plan_text.specs.declared.symbols.Token as seen
use Rattle.plan_text.specs.Tokens.{Token, keyword, word, semicolon, Tokens, next}
use Rattle.plan_text.specs.Tokens as tokens
use Rattle.plan_text.proofs.AgainLemmas.{spot, item_again}
use Rattle.plan_text.proofs.NameLemmas.{list_fits}
use Rattle.plan_text.proofs.TakesLemmas.{bind_ok, or_ok, ok_is, token_takes, end_takes, frame_takes}
use Rattle.plan_text.proofs.ValueLemmas.{known_is}

-- ---- names and addresses

pub unless_ok : {A : Type 0} (cause : Option BuildError) (line : ℕ) (x y : A) → unless_refused cause line x ≡ Ok y → (cause ≡ None) × (x ≡ y)
unless_ok None line x y e = (refl, cc)
unless_ok (Some cause) line x y e = absurd cc

if_name : (t : Bool) (bytes name : List ℕ) → (if t then Some bytes else None) ≡ Some name → (t ≡ true) × (bytes ≡ name)
if_name true bytes name e = (refl, cc)
if_name false bytes name e = absurd cc

name_only : (t : Token) (name : List ℕ) → name_in t ≡ Some name → (t ≡ word name) × IsName name
name_only (word bytes) name e = let h = if_name (is_name bytes) bytes name e in (ap word h.1, subst IsName h.1 h.0)
name_only (keyword k) name e = absurd cc
name_only semicolon name e = absurd cc

-- a name that is not refused
record NameTaken (refusal : List ℕ → Option BuildError) (at : Place) (x : List ℕ × Place) : Type 0 where
  spelled : SpellsName x.0 at.tokens x.1.tokens
  allowed : refusal x.0 ≡ None
  smaller : size at.tokens ≡ suc (size x.1.tokens)

name_takes : (refusal : List ℕ → Option BuildError) (at : Place) (x : List ℕ × Place) → name_at refusal at ≡ Ok x → NameTaken refusal at x
name_takes refusal at x e =
    let name = bind_ok (token_as name_in at) (λ name. unless_refused (refusal name.0) name.1 (name.0, name.2)) x e in
    let free = unless_ok (refusal name.0.0) name.0.1 (name.0.0, name.0.2) x name.2 in
    let t = token_takes name_in at name.0 name.1 in
    let is = name_only t.token name.0.0 t.known in
    subst (NameTaken refusal at) free.1
    record { spelled = ((name.0.1, t.first ∙ ap (λ (k : Token). next k name.0.1 name.0.2.tokens) is.0), is.1); allowed = free.0; smaller = t.smaller }

address_only : (t : Token) (address : ℕ) → known_address_in t ≡ Some address → (t ≡ word (interrupt_word address)) × (address < 128)
address_only (word bytes) address e = let h = known_is bytes address e in (ap word (sym h.1), h.0)
address_only (keyword k) address e = absurd cc
address_only semicolon address e = absurd cc

-- names of messages up to `;`
record NamesTaken (plan : Contents) (before : List (List ℕ)) (from : Tokens) (x : List (List ℕ) × Place) : Type 0 where
  names : List (List ℕ)
  between : Tokens
  all : x.0 ≡ before ++ names
  spelled : SpellsNames names from between
  end : one semicolon between x.1.tokens
  allowed : list_refusal plan before names ≡ None
  smaller : size x.1.tokens < size from

names_take : (from : Tokens) (plan : Contents) (before : List (List ℕ)) (nodes : ℕ) (x : List (List ℕ) × Place) → sendings_from plan before from nodes ≡ Ok x → NamesTaken plan before from x
names_take (next semicolon line rest) plan before nodes x e =
    subst (NamesTaken plan before (next semicolon line rest)) (ok_is (before, spot rest nodes) x e)
    record { names = []; between = next semicolon line rest; all = sym (append-nil before); spelled = refl; end = (line, refl); allowed = refl; smaller = omega arith }
names_take (next (word bytes) line rest) plan before nodes x e =
    let name = bind_ok (or_refused (name_in (word bytes)) (Unexpected line)) (λ name. unless_refused (list_refusal plan before (name ∷ [])) line name >>= λ allowed. sendings_from plan (before ++ allowed ∷ []) rest nodes) x e in
    let allowed = bind_ok (unless_refused (list_refusal plan before (name.0 ∷ [])) line name.0) (λ allowed. sendings_from plan (before ++ allowed ∷ []) rest nodes) x name.2 in
    let free = unless_ok (list_refusal plan before (name.0 ∷ [])) line name.0 allowed.0 allowed.1 in
    let is = name_only (word bytes) name.0 (or_ok (name_in (word bytes)) (Unexpected line) name.0 name.1) in
    let same : list_refusal plan before (allowed.0 ∷ []) ≡ None = subst (λ (n : List ℕ). list_refusal plan before (n ∷ []) ≡ None) free.1 free.0 in
    let more = names_take rest plan (before ++ allowed.0 ∷ []) nodes x allowed.2 in
    record {
      names = allowed.0 ∷ more.names;
      between = more.between;
      all = more.all ∙ append_assoc before (allowed.0 ∷ []) more.names;
      spelled = (rest, ((line, ap (λ (k : Token). next k line rest) (is.0 ∙ ap word free.1)), subst IsName free.1 is.1), more.spelled);
      end = more.end;
      allowed = list_fits plan before allowed.0 more.names same more.allowed;
      smaller = omega (arith, more.smaller);
    }
names_take (next (keyword k) line rest) plan before nodes x e = absurd cc
names_take (tokens.last ending line) plan before nodes x e = absurd cc

-- ---- items

-- an item, and the plan with it
pub record ItemTaken (version : Version) (plan : Contents) (at : Place) (x : Contents × Place) : Type 0 where
  pub item : Item
  pub fits : Fits plan item
  pub spelled : SpellsItem version item at.tokens x.1.tokens
  pub added : x.0 ≡ with_item plan item
  pub smaller : size x.1.tokens < size at.tokens

module _ (plan : Contents) (line : ℕ) (from : Place) where
  abbrev Starts : Token → Place → Type 0
  Starts token at = (from.tokens ≡ next token line at.tokens) × (size from.tokens ≡ suc (size at.tokens))

  message_takes : (version : Version) (at : Place) (x : Contents × Place) → Starts (keyword keywords.Message) at → message_at plan at ≡ Ok x → ItemTaken version plan from x
  unfolding message_at
  message_takes version at x start e =
      let name = bind_ok (name_at (message_name_refusal plan) at) (λ name. frame_at MOST_BYTES (record name.1 { nodes = 0 }) >>= λ frame. end_at frame.1 >>= λ after. Ok (with_message plan name.0 frame.0, after)) x e in
      let frame = bind_ok (frame_at MOST_BYTES (record name.0.1 { nodes = 0 })) (λ frame. end_at frame.1 >>= λ after. Ok (with_message plan name.0.0 frame.0, after)) x name.2 in
      let after = bind_ok (end_at frame.0.1) (λ after. Ok (with_message plan name.0.0 frame.0.0, after)) x frame.2 in
      let n = name_takes (message_name_refusal plan) at name.0 name.1 in
      let f = frame_takes MOST_BYTES (record name.0.1 { nodes = 0 }) frame.0 frame.1 in
      let end = end_takes frame.0.1 after.0 after.1 in
      let room = f.limit (omega arith) in
      subst (ItemTaken version plan from) (ok_is (with_message plan name.0.0 frame.0.0, after.0) x after.2)
      record {
        item = message name.0.0 frame.0.0;
        fits = message_fits plan name.0.0 frame.0.0 n.allowed (omega (arith, f.path)) (omega (arith, f.count, room));
        spelled = (at.tokens, (line, start.0), (name.0.1.tokens, n.spelled, (frame.0.1.tokens, f.spelled, end.first)));
        added = refl;
        smaller = omega (arith, start.1, n.smaller, f.smaller, end.smaller);
      }

  controller_takes : (version : Version) (at : Place) (x : Contents × Place) → Starts (keyword keywords.Controller) at → controller_at plan at ≡ Ok x → ItemTaken version plan from x
  unfolding controller_at
  controller_takes version at x start e =
      let name = bind_ok (name_at (controller_name_refusal plan) at) (λ name. sendings_from plan [] name.1.tokens name.1.nodes >>= λ messages. Ok (with_controller plan name.0 messages.0, messages.1)) x e in
      let list = bind_ok (sendings_from plan [] name.0.1.tokens name.0.1.nodes) (λ messages. Ok (with_controller plan name.0.0 messages.0, messages.1)) x name.2 in
      let n = name_takes (controller_name_refusal plan) at name.0 name.1 in
      let m = names_take name.0.1.tokens plan [] name.0.1.nodes list.0 list.1 in
      subst (ItemTaken version plan from) (ok_is (with_controller plan name.0.0 list.0.0, list.0.1) x list.2)
      record {
        item = controller name.0.0 m.names;
        fits = controller_fits plan name.0.0 m.names n.allowed m.allowed;
        spelled = (at.tokens, (line, start.0), (name.0.1.tokens, n.spelled, (m.between, m.spelled, m.end)));
        added = ap (with_controller plan name.0.0) m.all;
        smaller = omega (arith, start.1, n.smaller, m.smaller);
      }

  interrupt_takes : (version : Version) (at : Place) (x : Contents × Place) → Starts (keyword keywords.Interrupt) at → interrupt_at plan at ≡ Ok x → ItemTaken version plan from x
  unfolding interrupt_at
  interrupt_takes version at x start e =
      let name = bind_ok (name_at (interrupt_refusal plan) at) (λ name. known_address_at name.1 >>= λ address. end_at address.1 >>= λ after. Ok (with_interrupt plan name.0 address.0, after)) x e in
      let address = bind_ok (known_address_at name.0.1) (λ address. end_at address.1 >>= λ after. Ok (with_interrupt plan name.0.0 address.0, after)) x name.2 in
      let after = bind_ok (end_at address.0.1) (λ after. Ok (with_interrupt plan name.0.0 address.0.0, after)) x address.2 in
      let bits = bind_ok (token_as known_address_in name.0.1) (λ address. Ok (address.0, address.2)) address.0 address.1 in
      let t = token_takes known_address_in name.0.1 bits.0 bits.1 in
      let is = address_only t.token bits.0.0 t.known in
      let same = ok_is (bits.0.0, bits.0.2) address.0 bits.2 in
      let n = name_takes (interrupt_refusal plan) at name.0 name.1 in
      let end = end_takes address.0.1 after.0 after.1 in
      let word_is : (one (word (interrupt_word address.0.0)) name.0.1.tokens address.0.1.tokens × (address.0.0 < 128)) × (size name.0.1.tokens ≡ suc (size address.0.1.tokens)) =
      subst (λ (y : ℕ × Place). (one (word (interrupt_word y.0)) name.0.1.tokens y.1.tokens × (y.0 < 128)) × (size name.0.1.tokens ≡ suc (size y.1.tokens))) same
      (((bits.0.1, t.first ∙ ap (λ (k : Token). next k bits.0.1 bits.0.2.tokens) is.0), is.1), t.smaller) in
      subst (ItemTaken version plan from) (ok_is (with_interrupt plan name.0.0 address.0.0, after.0) x after.2)
      record {
        item = interrupt name.0.0 address.0.0;
        fits = (n.allowed, word_is.0.1);
        spelled = (at.tokens, (line, start.0), (name.0.1.tokens, n.spelled, (address.0.1.tokens, word_is.0.0, end.first)));
        added = refl;
        smaller = omega (arith, start.1, n.smaller, word_is.1, end.smaller);
      }

  never_takes : (at : Place) (x : Contents × Place) → Starts (keyword keywords.Never) at → never_at plan at ≡ Ok x → ItemTaken versions.Two plan from x
  unfolding never_at
  never_takes at x start e =
      let first = bind_ok (name_at (unknown_controller plan) at) (λ first. name_at (never_refusal plan first.0) first.1 >>= λ second. end_at second.1 >>= λ after. Ok (with_never plan first.0 second.0, after)) x e in
      let second = bind_ok (name_at (never_refusal plan first.0.0) first.0.1) (λ second. end_at second.1 >>= λ after. Ok (with_never plan first.0.0 second.0, after)) x first.2 in
      let after = bind_ok (end_at second.0.1) (λ after. Ok (with_never plan first.0.0 second.0.0, after)) x second.2 in
      let n = name_takes (unknown_controller plan) at first.0 first.1 in
      let m = name_takes (never_refusal plan first.0.0) first.0.1 second.0 second.1 in
      let end = end_takes second.0.1 after.0 after.1 in
      subst (ItemTaken versions.Two plan from) (ok_is (with_never plan first.0.0 second.0.0, after.0) x after.2)
      record {
        item = never_both first.0.0 second.0.0;
        fits = m.allowed;
        spelled = (at.tokens, (line, start.0), (first.0.1.tokens, n.spelled, (second.0.1.tokens, m.spelled, end.first)));
        added = refl;
        smaller = omega (arith, start.1, n.smaller, m.smaller, end.smaller);
      }

same_rule : (plan : Contents) (known rule : Contents → Place → Reads Contents) (past : Place) → Some known ≡ Some rule → known plan past ≡ rule plan past
same_rule plan known rule past is = let same : known ≡ rule = cc in ap (λ (r : Contents → Place → Reads Contents). r plan past) same

pub item_takes : (version : Version) (plan : Contents) (at : Place) (x : Contents × Place) → item_at version plan at ≡ Ok x → ItemTaken version plan at x
unfolding item_at
item_takes version plan at x e =
    let item = bind_ok (token_as (item_in version) at) (λ item. item.0 plan item.2) x e in
    let t = token_takes (item_in version) at item.0 item.1 in
    by_token version t.token item.0.0 item.0.1 item.0.2 t.known (t.first, t.smaller) item.2
  where
    by_token : (v : Version) (token : Token) (rule : Contents → Place → Reads Contents) (line : ℕ) (past : Place) → item_in v token ≡ Some rule → Starts plan line at token past → rule plan past ≡ Ok x → ItemTaken v plan at x
    by_token v (keyword keywords.Message) rule line past is start h = message_takes plan line at v past x start (same_rule plan message_at rule past is ∙ h)
    by_token v (keyword keywords.Controller) rule line past is start h = controller_takes plan line at v past x start (same_rule plan controller_at rule past is ∙ h)
    by_token v (keyword keywords.Interrupt) rule line past is start h = interrupt_takes plan line at v past x start (same_rule plan interrupt_at rule past is ∙ h)
    by_token versions.Two (keyword keywords.Never) rule line past is start h = never_takes plan line at past x start (same_rule plan never_at rule past is ∙ h)
    by_token v token rule line past is start h = absurd cc

-- ---- how many items there may be makes no difference, where there may be more than there are tokens

items_same : (m n : ℕ) (version : Version) (plan : Contents) (at : Place) → size at.tokens < m → size at.tokens < n → items_in m version plan at ≡ items_in n version plan at
unfolding items_in
items_same zero n version plan at p q = absurd (omega arith)
items_same (suc m) zero version plan at p q = absurd (omega arith)
items_same (suc m) (suc n) version plan at p q =
    ap (λ (r : Result Contents PlanError). if is_end at.tokens then Ok plan else r)
    (same_ok (item_at version plan at) (λ x. items_in m version x.0 x.1) (λ x. items_in n version x.0 x.1) (λ x e. let t = item_takes version plan at x e in items_same m n version x.0 x.1 (omega (arith, t.smaller)) (omega (arith, t.smaller))))
  where
    same_ok : {A B : Type 0} (r : Result A PlanError) (f g : A → Result B PlanError) → ((x : A) → r ≡ Ok x → f x ≡ g x) → (r >>= f) ≡ (r >>= g)
    same_ok (Ok x) f g h = h x refl
    same_ok (Err e) f g h = refl

-- where the text does not end here, an item is read and then the others
pub items_step : (version : Version) (plan : Contents) (at : Place) → is_end at.tokens ≡ false → items_at version plan at ≡ (item_at version plan at >>= λ x. items_in (size at.tokens) version x.0 x.1)
unfolding items_in
items_step version plan at e = rw e refl

pub items_after : (version : Version) (plan : Contents) (at : Place) (x : Contents × Place) → is_end at.tokens ≡ false → item_at version plan at ≡ Ok x → items_at version plan at ≡ items_at version x.0 x.1
items_after version plan at x more e =
    let t = item_takes version plan at x e in
    items_step version plan at more ∙ rw e (items_same (size at.tokens) (suc (size x.1.tokens)) version x.0 x.1 (omega (arith, t.smaller)) (omega arith))

pub items_end : (version : Version) (plan : Contents) (at : Place) → is_end at.tokens ≡ true → items_at version plan at ≡ Ok plan
unfolding items_in
items_end version plan at e = rw e refl

pub items_refuse : (version : Version) (plan : Contents) (at : Place) (e : PlanError) → is_end at.tokens ≡ false → Refuses (item_at version plan at) e → Refuses (items_at version plan at) e
items_refuse version plan at e more (inl memory) = inl memory
items_refuse version plan at e more (inr h) = inr (items_step version plan at more ∙ rw h refl)

-- ---- all items

-- items from a place up to the end make up this plan
abbrev pub Items : Version → Contents → Contents → Place → Type 0
Items version plan whole at = (items : List Item) × ((line : ℕ) × SpellsItems version items plan at.tokens whole (tokens.last text_end line))

pub items_take : (most : ℕ) (version : Version) (plan : Contents) (at : Place) (whole : Contents) → items_in most version plan at ≡ Ok whole → Items version plan whole at
unfolding items_in
items_take zero version plan at whole e = absurd cc
items_take (suc most) version plan at whole e = by_end (is_end at.tokens) refl e (λ p further. items_take most version p further whole)
  where
    at_end : (from : Tokens) → is_end from ≡ true → (line : ℕ) × (tokens.last text_end line ≡ from)
    at_end (tokens.last text_end line) h = (line, refl)
    at_end from h = absurd cc

    by_end : (t : Bool) → is_end at.tokens ≡ t → (if t then Ok plan else (item_at version plan at >>= λ more. items_in most version more.0 more.1)) ≡ Ok whole
        → ((p : Contents) (further : Place) → items_in most version p further ≡ Ok whole → Items version p whole further) → Items version plan whole at
    by_end true is h others = let end = at_end at.tokens is in ([], (end.0, (sym (ok_is plan whole h), end.1)))
    by_end false is h others =
        let x = bind_ok (item_at version plan at) (λ more. items_in most version more.0 more.1) whole h in
        let t = item_takes version plan at x.0 x.1 in
        let rest = others x.0.0 x.0.1 x.2 in
        (t.item ∷ rest.0, (rest.1.0, (t.fits, (x.0.1.tokens, t.spelled, subst (λ (p : Contents). SpellsItems version rest.0 p x.0.1.tokens whole (tokens.last text_end rest.1.0)) t.added rest.1.1))))

not_end : (version : Version) (i : Item) (from to : Tokens) → SpellsItem version i from to → is_end from ≡ false
not_end version (message name frame) from to s = ap is_end s.1.1
not_end version (controller name messages) from to s = ap is_end s.1.1
not_end version (interrupt name address) from to s = ap is_end s.1.1
not_end versions.One (never_both first second) from to s = absurd s
not_end versions.Two (never_both first second) from to s = ap is_end s.1.1

pub items_again : (items : List Item) (version : Version) (plan whole : Contents) (nodes : ℕ) (from : Tokens) (line : ℕ) → SpellsItems version items plan from whole (tokens.last text_end line) → items_at version plan (spot from nodes) ≡ Ok whole
items_again [] version plan whole nodes from line s = items_end version plan (spot from nodes) (ap is_end (sym s.1)) ∙ ap (λ (p : Contents). Ok p) (sym s.0)
items_again (i ∷ items) version plan whole nodes from line s =
    let first = item_again version i plan nodes from s.1.0 s.0 s.1.1 in
    items_after version plan (spot from nodes) (with_item plan i, spot s.1.0 first.0) (not_end version i from s.1.0 s.1.1) first.1
    ∙ items_again items version (with_item plan i) whole first.0 s.1.0 line s.1.2

-- ---- names of messages, one after the other

refuses_on : {A B : Type 0} (r : Result A PlanError) (f : A → Result B PlanError) (e : PlanError) → Refuses r e → Refuses (r >>= f) e
refuses_on r f e (inl memory) = inl memory
refuses_on r f e (inr is) = inr (ap (λ (x : Result _ PlanError). x >>= f) is)

module _ (plan : Contents) (names : List (List ℕ)) (token : seen.Token) (at after : Place) (first : at ≡ before token after) (other : token.symbol ≡ symbols.Semicolon → ⊥) where
  abbrev allowed_then : Result (List ℕ × ℕ × Place) PlanError → Reads (List (List ℕ))
  allowed_then r = r >>= λ name. unless_refused (list_refusal plan names (name.0 ∷ [])) name.1 name.0 >>= λ allowed. sendings_from plan (names ++ allowed ∷ []) name.2.tokens name.2.nodes

  sendings_step : sendings_from plan names at.tokens at.nodes ≡ allowed_then (token_as name_in (before token after))
  sendings_step = ap (λ (p : Place). sendings_from plan names p.tokens p.nodes) first ∙ by_symbol token.symbol other
    where
      by_option : (o : Option (List ℕ)) (line : ℕ) → (or_refused o (Unexpected line) >>= λ name. unless_refused (list_refusal plan names (name ∷ [])) line name >>= λ allowed. sendings_from plan (names ++ allowed ∷ []) after.tokens after.nodes)
          ≡ allowed_then (or_refused o (Unexpected line) >>= λ x. Ok (x, line, after))
      by_option (Some x) line = refl
      by_option None line = refl

      by_symbol : (s : Symbol) → (s ≡ symbols.Semicolon → ⊥) → sendings_from plan names (with_symbol s token.line after.tokens) after.nodes ≡ allowed_then (token_as name_in (record after { tokens = with_symbol s token.line after.tokens }))
      by_symbol (symbols.Keyword k) h = refl
      by_symbol (symbols.Word w) h = by_option (name_in (word w.now)) token.line
      by_symbol symbols.Semicolon h = absurd (h refl)
      by_symbol symbols.Stray h = refl
      by_symbol symbols.Foreign h = refl
      by_symbol symbols.End h = refl

  pub no_sending : (e : PlanError) → Refuses (token_as name_in (before token after)) e → Refuses (sendings_from plan names at.tokens at.nodes) e
  no_sending e h = subst (λ (r : Reads (List (List ℕ))). Refuses r e) (sym sendings_step) (refuses_on (token_as name_in (before token after)) _ e h)

  module _ (name : List ℕ) (found : token_as name_in (before token after) ≡ Ok (name, token.line, after)) where
    pub sending_refused : (e : PlanError) (cause : BuildError) → list_refusal plan names (name ∷ []) ≡ Some cause → e ≡ refused_at cause token.line → Refuses (sendings_from plan names at.tokens at.nodes) e
    sending_refused e cause h is = inr (sendings_step ∙ ap allowed_then found ∙ rw h (ap (λ (f : PlanError). Err f) (sym is)))

    pub sending_on : list_refusal plan names (name ∷ []) ≡ None → sendings_from plan names at.tokens at.nodes ≡ sendings_from plan (names ++ name ∷ []) after.tokens after.nodes
    sending_on h = sendings_step ∙ ap allowed_then found ∙ rw h refl

    pub sending_smaller : size after.tokens < size at.tokens
    sending_smaller =
        let t = token_takes name_in (before token after) (name, token.line, after) found in
        let same = ap (λ (p : Place). size p.tokens) first in
        omega (arith, same, t.smaller)
