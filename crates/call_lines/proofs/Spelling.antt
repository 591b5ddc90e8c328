-- The shortest spelling of a call.
use Rattle.std.proofs.Common.{ℕ, ◌≤◌, List, [], ◌∷◌, decimal, refl, arith, rules}
use Rattle.std.specs.List.{flat_map, AllByRecursion}
use Rattle.std.proofs.lemmas.Fmt.{decimal_nonempty, digits_decimal, length-decimal-le, digits_value-decimal}
use Rattle.std.proofs.lemmas.Str.Parse.{IsNumeralModel, numerals_by_fold}
use Rattle.call_lines.specs.Grammar.{Digit, Number, Spaced, most_number, numbers, read_on, space}
use Rattle.call_lines.specs.Laws.{SpellingSpells}

digits_are_numerals : IsNumeralModel (AllByRecursion Digit) (read_on 0)
digits_are_numerals = numerals_by_fold (AllByRecursion Digit) (search rules) read_on (search rules)

decimal_number : (n : ℕ) → n ≤ most_number → Number (decimal n) n
decimal_number n small = record {
  digits = digits_decimal digits_are_numerals n (omega arith);
  some = decimal_nonempty n (omega arith);
  few = length-decimal-le 5 n (omega arith) (omega arith) (omega arith);
  value = digits_value-decimal digits_are_numerals n (omega arith);
  small = small;
}

spaced_decimals :
    (ns : List ℕ) → AllByRecursion (λ n. n ≤ most_number) ns → Spaced ns (flat_map (λ n. space ∷ decimal n) ns)
spaced_decimals [] small = refl
spaced_decimals (n ∷ ns) small =
    (decimal n, flat_map (λ n. space ∷ decimal n) ns, decimal_number n small.0, spaced_decimals ns small.1, refl)

pub spelling_spells : SpellingSpells
spelling_spells c small = (flat_map (λ n. space ∷ decimal n) (numbers c), refl, spaced_decimals (numbers c) small)
