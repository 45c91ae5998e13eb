-- The groups of the unsafe pairs of a plan, in the order in which people see them.
use Rattle.std.specs.Prelude.{ℕ, List}
use Rattle.remedies.specs.declared.groups.Grouped.{Grouped}
use Rattle.remedies.specs.declared.ranks.Ranked.{Ranked}

abbrev pub ranked_numbers : Ranked → List ℕ
ranked_numbers ranked = ranked.numbers.items

-- for each unsafe pair the number of its group
abbrev pub group_numbers : Grouped → List ℕ
group_numbers grouped = ranked_numbers grouped.groups
