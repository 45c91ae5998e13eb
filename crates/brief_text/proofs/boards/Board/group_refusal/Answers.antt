use Rattle.std.proofs.Common.{◌≡◌, ◌+◌, ◌*◌, ◌<◌, ◌≤◌, ℕ, List, Bool, Option, true, false, length, map, not, inr, refl, ap, sym, ◌∙◌, subst}
use Rattle.std.specs.List.{list_any}
use Rattle.std.specs.Str.{bytes_eq}
use Rattle.std.proofs.lemmas.List.{length-map}
use Rattle.plan_core.proofs.StepLemmas.{list_any-map}
use Rattle.plan_core.specs.NameBytes.{name_bytes}
use Rattle.plan_core.specs.declared.names.Name.{Name}
use Rattle.brief_text.specs.Drafts.{Draft, devices_of, device_name, device_names}
use Rattle.brief_text.specs.declared.syntax.Lengths.{Lengths}
use Rattle.brief_text.specs.Judging.{how_many, is_long, further_names, is_message, repeats}
use Rattle.brief_text.specs.Standing.{draft}
use Rattle.brief_text.proofs.BoardLemmas.{grouped_judged, names_over, no_more_than, more_than}
use Rattle.brief_text.proofs.boards.Board.group_refusal.Goals as goal

-- the tests, as the draft sees them

differing : (group : List ℕ) (others : List Name) (t b : Bool) → t ≡ list_any (λ it. not (bytes_eq (name_bytes it) group)) others → t ≡ b → list_any (λ other. not (bytes_eq other group)) (map name_bytes others) ≡ b
differing group others t b is same = list_any-map (λ (other : List ℕ). not (bytes_eq other group)) name_bytes others ∙ sym is ∙ same

counted_devices : (d : Draft) (group : List ℕ) (devices : List Name) → map name_bytes devices ≡ devices_of d group → length devices ≡ length (devices_of d group)
counted_devices d group devices are = sym (length-map {B = List ℕ} devices name_bytes) ∙ ap length are

counted_all : (d : Draft) (group : List ℕ) (range : Option Lengths) (messages count : ℕ) (devices : List Name) → messages ≡ length d.plan.messages → map name_bytes devices ≡ devices_of d group → count ≡ how_many range
    → messages + length devices * count ≡ length d.plan.messages + length (devices_of d group) * how_many range
counted_all d group range messages count devices all are each = λ i. all i + counted_devices d group devices are i * each i

named : (d : Draft) (name group : List ℕ) (devices : List Name) → map name_bytes devices ≡ devices_of d group → map (λ it. device_name name (name_bytes it)) devices ≡ device_names d name group
named d name group devices are = sym (names_over (device_name name) devices) ∙ ap (map (device_name name)) are

long_names : (d : Draft) (name group : List ℕ) (range : Option Lengths) (devices : List Name) (t b : Bool) → map name_bytes devices ≡ devices_of d group → t ≡ list_any (is_long range) (map (λ it. device_name name (name_bytes it)) devices) → t ≡ b
    → list_any (is_long range) (device_names d name group) ≡ b
long_names d name group range devices t b are is same = ap (list_any (is_long range)) (sym (named d name group devices are)) ∙ sym is ∙ same

all_made : (d : Draft) (name group : List ℕ) (range : Option Lengths) (devices names slice further last : List Name) → map name_bytes devices ≡ devices_of d group → map name_bytes names ≡ map (λ it. device_name name (name_bytes it)) devices
    → slice ≡ names → map name_bytes further ≡ further_names range (map name_bytes slice) → last ≡ further → further_names range (device_names d name group) ≡ map name_bytes last
all_made d name group range devices names slice further last are made same all also =
    ap (further_names range) (sym (named d name group devices are) ∙ sym made ∙ ap (map name_bytes) (sym same)) ∙ sym all ∙ ap (map name_bytes) (sym also)

standing_name : (d : Draft) (names : List (List ℕ)) (last : List Name) (t b : Bool) → names ≡ map name_bytes last → t ≡ list_any (λ it. is_message d (name_bytes it)) last → t ≡ b → list_any (is_message d) names ≡ b
standing_name d names last t b are is same = ap (list_any (is_message d)) are ∙ list_any-map (is_message d) name_bytes last ∙ sym is ∙ same

repeated_name : (names : List (List ℕ)) (last : List Name) (t b : Bool) → names ≡ map name_bytes last → t ≡ repeats (map name_bytes last) → t ≡ b → repeats names ≡ b
repeated_name names last t b are is same = ap repeats are ∙ sym is ∙ same

pub returns-then-has_other : goal.returns-then-has_other
returns-then-has_other c = λ at.
    let group = name_bytes c.args.group.now in
    inr (grouped_judged (draft c.args.self.now) (name_bytes c.args.name.now) c.args.range group (map name_bytes c.args.others.now) c.args.line at true _ _ _ _ _
    (differing group c.args.others.now _ true c.has_other.ensures c.if-has_other.true) refl refl refl refl refl)

pub returns-then-devices : goal.returns-then-devices
returns-then-devices c = λ at.
    let d = draft c.args.self.now in
    let group = name_bytes c.args.group.now in
    let many = more_than (length (devices_of d group)) 256 (subst (λ n. 256 < n) (counted_devices d group c.devices_of-devices.result.now c.devices_of-devices.ensures) c.if-devices.true) in
    inr (grouped_judged d (name_bytes c.args.name.now) c.args.range group (map name_bytes c.args.others.now) c.args.line at false true _ _ _ _
    (differing group c.args.others.now _ false c.has_other.ensures c.if-has_other.false) many refl refl refl refl)

pub returns-then-self-devices-gt-MOST_MESSAGES : goal.returns-then-self-devices-gt-MOST_MESSAGES
returns-then-self-devices-gt-MOST_MESSAGES c = λ at.
    let d = draft c.args.self.now in
    let group = name_bytes c.args.group.now in
    let devices = c.devices_of-devices.result.now in
    let are = c.devices_of-devices.ensures in
    let few = no_more_than (length (devices_of d group)) 256 (subst (λ n. n ≤ 256) (counted_devices d group devices are) c.if-devices.false) in
    let full = more_than (length d.plan.messages + length (devices_of d group) * how_many c.args.range) 256 (subst (λ n. 256 < n) (counted_all d group c.args.range c.args.self.now.messages c.how_many.result devices c.args.self.now.counted are c.how_many.ensures.count) c.if-self-devices-gt-MOST_MESSAGES.true) in
    inr (grouped_judged d (name_bytes c.args.name.now) c.args.range group (map name_bytes c.args.others.now) c.args.line at false false true _ _ _
    (differing group c.args.others.now _ false c.has_other.ensures c.if-has_other.false) few full refl refl refl)

pub returns-then-branch : goal.returns-then-branch
returns-then-branch c = λ at.
    let d = draft c.args.self.now in
    let name = name_bytes c.args.name.now in
    let group = name_bytes c.args.group.now in
    let devices = c.devices_of-devices.result.now in
    let are = c.devices_of-devices.ensures in
    let few = no_more_than (length (devices_of d group)) 256 (subst (λ n. n ≤ 256) (counted_devices d group devices are) c.if-devices.false) in
    let room = no_more_than (length d.plan.messages + length (devices_of d group) * how_many c.args.range) 256 (subst (λ n. n ≤ 256) (counted_all d group c.args.range c.args.self.now.messages c.how_many.result devices c.args.self.now.counted are c.how_many.ensures.count) c.if-self-devices-gt-MOST_MESSAGES.false) in
    inr (grouped_judged d name c.args.range group (map name_bytes c.args.others.now) c.args.line at false false false true _ _
    (differing group c.args.others.now _ false c.has_other.ensures c.if-has_other.false) few room (long_names d name group c.args.range devices _ true are c.in_ok-has_long.ensures c.if-branch.true) refl refl)

pub returns-then-has_one_of : goal.returns-then-has_one_of
returns-then-has_one_of c = λ at.
    let d = draft c.args.self.now in
    let name = name_bytes c.args.name.now in
    let group = name_bytes c.args.group.now in
    let devices = c.devices_of-devices.result.now in
    let are = c.devices_of-devices.ensures in
    let few = no_more_than (length (devices_of d group)) 256 (subst (λ n. n ≤ 256) (counted_devices d group devices are) c.if-devices.false) in
    let room = no_more_than (length d.plan.messages + length (devices_of d group) * how_many c.args.range) 256 (subst (λ n. n ≤ 256) (counted_all d group c.args.range c.args.self.now.messages c.how_many.result devices c.args.self.now.counted are c.how_many.ensures.count) c.if-self-devices-gt-MOST_MESSAGES.false) in
    let made = all_made d name group c.args.range devices c.in_ok-names.names.items c.as_slice.result.now c.in_ok-further.further.items c.as_slice-2.result.now are c.in_ok-names.ensures c.as_slice.ensures.value c.in_ok-further.ensures c.as_slice-2.ensures.value in
    inr (grouped_judged d name c.args.range group (map name_bytes c.args.others.now) c.args.line at false false false false true _
    (differing group c.args.others.now _ false c.has_other.ensures c.if-has_other.false) few room (long_names d name group c.args.range devices _ false are c.in_ok-has_long.ensures c.if-branch.false)
    (standing_name d _ c.as_slice-2.result.now _ true made c.has_one_of.ensures c.if-has_one_of.true) refl)

pub returns-then-repeats : goal.returns-then-repeats
returns-then-repeats c = λ at.
    let d = draft c.args.self.now in
    let name = name_bytes c.args.name.now in
    let group = name_bytes c.args.group.now in
    let devices = c.devices_of-devices.result.now in
    let are = c.devices_of-devices.ensures in
    let few = no_more_than (length (devices_of d group)) 256 (subst (λ n. n ≤ 256) (counted_devices d group devices are) c.if-devices.false) in
    let room = no_more_than (length d.plan.messages + length (devices_of d group) * how_many c.args.range) 256 (subst (λ n. n ≤ 256) (counted_all d group c.args.range c.args.self.now.messages c.how_many.result devices c.args.self.now.counted are c.how_many.ensures.count) c.if-self-devices-gt-MOST_MESSAGES.false) in
    let made = all_made d name group c.args.range devices c.in_ok-names.names.items c.as_slice.result.now c.in_ok-further.further.items c.as_slice-2.result.now are c.in_ok-names.ensures c.as_slice.ensures.value c.in_ok-further.ensures c.as_slice-2.ensures.value in
    let also = all_made d name group c.args.range devices c.in_ok-names.names.items c.as_slice.result.now c.in_ok-further.further.items c.as_slice-3.result.now are c.in_ok-names.ensures c.as_slice.ensures.value c.in_ok-further.ensures c.as_slice-3.ensures.value in
    inr (grouped_judged d name c.args.range group (map name_bytes c.args.others.now) c.args.line at false false false false false true
    (differing group c.args.others.now _ false c.has_other.ensures c.if-has_other.false) few room (long_names d name group c.args.range devices _ false are c.in_ok-has_long.ensures c.if-branch.false)
    (standing_name d _ c.as_slice-2.result.now _ false made c.has_one_of.ensures c.if-has_one_of.false) (repeated_name _ c.as_slice-3.result.now _ true also c.repeats.ensures c.if-repeats.true))

pub returns : goal.returns
returns c = λ at.
    let d = draft c.args.self.now in
    let name = name_bytes c.args.name.now in
    let group = name_bytes c.args.group.now in
    let devices = c.devices_of-devices.result.now in
    let are = c.devices_of-devices.ensures in
    let few = no_more_than (length (devices_of d group)) 256 (subst (λ n. n ≤ 256) (counted_devices d group devices are) c.if-devices.false) in
    let room = no_more_than (length d.plan.messages + length (devices_of d group) * how_many c.args.range) 256 (subst (λ n. n ≤ 256) (counted_all d group c.args.range c.args.self.now.messages c.how_many.result devices c.args.self.now.counted are c.how_many.ensures.count) c.if-self-devices-gt-MOST_MESSAGES.false) in
    let made = all_made d name group c.args.range devices c.in_ok-names.names.items c.as_slice.result.now c.in_ok-further.further.items c.as_slice-2.result.now are c.in_ok-names.ensures c.as_slice.ensures.value c.in_ok-further.ensures c.as_slice-2.ensures.value in
    let also = all_made d name group c.args.range devices c.in_ok-names.names.items c.as_slice.result.now c.in_ok-further.further.items c.as_slice-3.result.now are c.in_ok-names.ensures c.as_slice.ensures.value c.in_ok-further.ensures c.as_slice-3.ensures.value in
    grouped_judged d name c.args.range group (map name_bytes c.args.others.now) c.args.line at false false false false false false
    (differing group c.args.others.now _ false c.has_other.ensures c.if-has_other.false) few room (long_names d name group c.args.range devices _ false are c.in_ok-has_long.ensures c.if-branch.false)
    (standing_name d _ c.as_slice-2.result.now _ false made c.has_one_of.ensures c.if-has_one_of.false) (repeated_name _ c.as_slice-3.result.now _ false also c.repeats.ensures c.if-repeats.false)
