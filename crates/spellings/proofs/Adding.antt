-- A text that grows by some words and then by more grows by all of them, and a word is written bit by bit.

use Rattle.std.proofs.Common.{◌≡◌, ◌<◌, ◌≤◌, ◌+◌, ℕ, zero, suc, Bool, true, false, ◌||◌, List, [], ◌∷◌, ◌++◌, refl, ap, sym, ◌∙◌, append_assoc, append-nil, map, take, drop, length, get_or, Some, slice_get, lit<, subst, add-one}
use Rattle.std.specs.List.{list_any, flat_map}
use Rattle.std.specs.Map.{keys_of, values_of}
use Rattle.std.specs.Prelude.{Result, Ok, Err, OnOk}
use Rattle.std.proofs.lemmas.List.{take_all, map-append, drop_more, take_more}
use Rattle.std.proofs.Math.Seq.{take-suc}
use Rattle.std.proofs.lemmas.Option.{slice_get_within, get_or_from_slice_get}
use Rattle.message_tree.specs.declared.bits.Bit.{Bit}
use Rattle.message_tree.specs.declared.bits.Bit.TheVariants.{Zero, One, Either}
use Rattle.plan_core.specs.Labels.{name_at}
use Rattle.plan_text.specs.Symbols.{bit_symbol}
use Rattle.spellings.specs.Canonical.{spaced, Adds}

pub spaced-append : (xs ys : List (List ℕ)) → spaced (xs ++ ys) ≡ spaced xs ++ spaced ys
spaced-append [] ys = refl
spaced-append (x ∷ xs) ys = ap (λ l. (32 ∷ x) ++ l) (spaced-append xs ys) ∙ sym (append_assoc (32 ∷ x) (spaced xs) (spaced ys))

pub adds_then : (a b c : List ℕ) (xs ys : List (List ℕ)) → Adds a b xs → Adds b c ys → Adds a c (xs ++ ys)
adds_then a b c xs ys first second =
    second ∙ ap (λ l. l ++ spaced ys) first ∙ append_assoc a (spaced xs) (spaced ys) ∙ ap (λ l. a ++ l) (sym (spaced-append xs ys))

-- the same before a call that may fail
pub then_adds : {X E : Type 0} (r : Result X E) (a b c : List ℕ) (xs ys : List (List ℕ)) → Adds a b xs → OnOk r (Adds b c ys) → OnOk r (Adds a c (xs ++ ys))
then_adds (Ok _) a b c xs ys first second = adds_then a b c xs ys first second
then_adds (Err _) a b c xs ys first second = tt

pub symbol_ascii : (b : Bit) → bit_symbol b < 128
symbol_ascii Zero = lit< tt
symbol_ascii One = lit< tt
symbol_ascii Either = lit< tt

-- one more bit is written
pub bits_more : (base b c : List ℕ) (bits : List Bit) (k : ℕ) (x : Bit) → slice_get bits k ≡ Some x → b ≡ base ++ map bit_symbol (take k bits) → c ≡ b ++ (bit_symbol x ∷ []) → c ≡ base ++ map bit_symbol (take (k + 1) bits)
bits_more base b c bits k x at before more =
    let step : take (k + 1) bits ≡ take k bits ++ (x ∷ []) = ap (λ n. take n bits) (add-one k) ∙ take-suc bits k x (slice_get_within bits k x at) ∙ ap (λ y. take k bits ++ (y ∷ [])) (get_or_from_slice_get bits k x x at) in
    more ∙ ap (λ l. l ++ (bit_symbol x ∷ [])) before ∙ append_assoc base (map bit_symbol (take k bits)) (bit_symbol x ∷ []) ∙ ap (λ l. base ++ l) (sym (ap (map bit_symbol) step ∙ map-append bit_symbol (take k bits) (x ∷ [])))

-- all bits are written after this front
pub bits_after : (front old b : List ℕ) (bits : List Bit) (n : ℕ) → length bits ≤ n → b ≡ (old ++ (32 ∷ front)) ++ map bit_symbol (take n bits) → Adds old b ((front ++ map bit_symbol bits) ∷ [])
bits_after front old b bits n long written =
    written ∙ ap (λ l. (old ++ (32 ∷ front)) ++ map bit_symbol l) (take_all n bits long) ∙ append_assoc old (32 ∷ front) (map bit_symbol bits) ∙ ap (λ l. old ++ l) (sym (append-nil (32 ∷ (front ++ map bit_symbol bits))))

-- words, and then these and those
pub adds_three : {X E : Type 0} (r : Result X E) (t0 t1 t2 t3 : List ℕ) (word : List ℕ) (xs ys : List (List ℕ)) → Adds t0 t1 (word ∷ []) → Adds t1 t2 xs → OnOk r (Adds t2 t3 ys) → OnOk r (Adds t0 t3 (word ∷ (xs ++ ys)))
adds_three r t0 t1 t2 t3 word xs ys e1 e2 e3 = then_adds r t0 t1 t3 (word ∷ []) (xs ++ ys) e1 (then_adds r t1 t2 t3 xs ys e2 e3)

pub adds_four : {X E : Type 0} (r : Result X E) (t0 t1 t2 t3 t4 : List ℕ) (kind word : List ℕ) (xs ys : List (List ℕ)) → Adds t0 t1 (kind ∷ []) → Adds t1 t2 (word ∷ []) → Adds t2 t3 xs → OnOk r (Adds t3 t4 ys) → OnOk r (Adds t0 t4 (kind ∷ (word ∷ (xs ++ ys))))
adds_four r t0 t1 t2 t3 t4 kind word xs ys e1 e2 e3 e4 = then_adds r t0 t1 t4 (kind ∷ []) (word ∷ (xs ++ ys)) e1 (adds_three r t1 t2 t3 t4 word xs ys e2 e3 e4)

pub adds_five : {X E : Type 0} (r : Result X E) (t0 t1 t2 t3 t4 t5 : List ℕ) (kind word count : List ℕ) (xs ys : List (List ℕ)) → Adds t0 t1 (kind ∷ []) → Adds t1 t2 (word ∷ []) → Adds t2 t3 (count ∷ []) → Adds t3 t4 xs → OnOk r (Adds t4 t5 ys)
    → OnOk r (Adds t0 t5 (kind ∷ (word ∷ (count ∷ (xs ++ ys)))))
adds_five r t0 t1 t2 t3 t4 t5 kind word count xs ys e1 e2 e3 e4 e5 = then_adds r t0 t1 t5 (kind ∷ []) (word ∷ (count ∷ (xs ++ ys))) e1 (adds_four r t1 t2 t3 t4 t5 word count xs ys e2 e3 e4 e5)

-- the entry of this name and this value
pub entry_at : {X : Type 0} (entries : List (List ℕ × X)) (k : ℕ) (name : List ℕ) (x : X) → slice_get (keys_of entries) k ≡ Some name → slice_get (values_of entries) k ≡ Some x → slice_get entries k ≡ Some (name, x)
entry_at [] k name x key value = cc
entry_at (e ∷ es) zero name x key value = let named : e.0 ≡ name = cc in let given : e.1 ≡ x = cc in λ i. Some (named i, given i)
entry_at (e ∷ es) (suc k) name x key value = entry_at es k name x key value

module _ {X : Type 0} (xs : List X) (k : ℕ) (x : X) (at : slice_get xs k ≡ Some x) where
  rest_at : drop k xs ≡ x ∷ drop (k + 1) xs
  rest_at = drop_more xs k x (slice_get_within xs k x at) ∙ ap (λ y. y ∷ drop (k + 1) xs) (get_or_from_slice_get xs k x x at)

  -- one line more of all lines
  pub line_more : (f : X → List ℕ) (a b all : List ℕ) → a ++ flat_map f (drop k xs) ≡ all → b ≡ a ++ f x → b ++ flat_map f (drop (k + 1) xs) ≡ all
  line_more f a b all before more = rw (more, append_assoc) (ap (λ rest. a ++ flat_map f rest) (sym rest_at) ∙ before)

  -- one test more of all tests
  pub any_here : (test : X → Bool) (all : Bool) → list_any test (drop k xs) ≡ all → test x ≡ true → true ≡ all
  any_here test all before here = sym (ap (λ b. b || list_any test (drop (k + 1) xs)) here) ∙ ap (list_any test) (sym rest_at) ∙ before

  pub any_later : (test : X → Bool) (all : Bool) → list_any test (drop k xs) ≡ all → test x ≡ false → list_any test (drop (k + 1) xs) ≡ all
  any_later test all before here = sym (ap (λ b. b || list_any test (drop (k + 1) xs)) here) ∙ ap (list_any test) (sym rest_at) ∙ before

-- a value that passes is that of an entry
pub value_entry : {X : Type 0} (entries : List (List ℕ × X)) (k : ℕ) (x : X) → slice_get (values_of entries) k ≡ Some x → (name : List ℕ) × (slice_get entries k ≡ Some (name, x))
value_entry [] k x value = cc
value_entry (e ∷ es) zero x value = let given : e.1 ≡ x = cc in (e.0, λ i. Some (e.0, given i))
value_entry (e ∷ es) (suc k) x value = value_entry es k x value

-- one more message's name is written
pub names_more : {X : Type 0} (entries : List (List ℕ × X)) (numbers : List ℕ) (k : ℕ) (name a b c : List ℕ) → k < length numbers → slice_get (keys_of entries) (get_or numbers k 0) ≡ Some name → Adds a b (map (name_at entries) (take k numbers)) → Adds b c (name ∷ []) → Adds a c (map (name_at entries) (take (k + 1) numbers))
names_more entries numbers k name a b c within named before more =
    let n = get_or numbers k 0 in
    let names : map (name_at entries) (take (k + 1) numbers) ≡ map (name_at entries) (take k numbers) ++ (name ∷ []) =
    ap (map (name_at entries)) (take_more numbers k 0 within) ∙ map-append (name_at entries) (take k numbers) (n ∷ []) ∙ ap (λ m. map (name_at entries) (take k numbers) ++ (m ∷ [])) (get_or_from_slice_get (keys_of entries) n name [] named) in
    subst (Adds a c) (sym names) (adds_then a b c (map (name_at entries) (take k numbers)) (name ∷ []) before more)
