-- A number's decimal is the one text that stands for it: std's lemmas on digits.
use Rattle.std.proofs.Common.{decimal, refl, sym, ◌∙◌, ap, subst, arith}
use Rattle.std.specs.Str.Parse.{AllDigits, digits_value}
use Rattle.std.proofs.lemmas.Fmt.{decimal_is_IsNumeral, decimal-digits_value, first_decimal, length-decimal-le}
use Rattle.std.proofs.lemmas.Str.Parse.{IsNumeralModel, digits_value_short}
use Rattle.itoa.proofs.Decimal.{length_one}
use Rattle.lines.specs.Decimals.{StandFor}
use Rattle.lines.proofs.theorems.one_decimal.Goals as goal

own : IsNumeralModel (AllDigits 10) (digits_value 10)
own = record { to = λ ds all. all; from = λ ds all. all; same = λ ds all. refl }

pub returns : goal.returns
returns c = λ n fits.
    let numeral = decimal_is_IsNumeral n fits in
    let stands : StandFor (decimal n) n =
    record { numeral = numeral.0; no_zero = λ first. length_one n (grind (arith, first_decimal n)); value = numeral.1 } in
    record {
      one_text = λ ds. (
        λ stand. sym (ap decimal (sym stand.value)
            ∙ decimal-digits_value own ds stand.numeral.1 stand.numeral.0 stand.no_zero (omega (arith, stand.value))),
        λ e. subst (λ l. StandFor l n) (sym e) stands,
      );
      short = (
        λ at_most. omega (arith, digits_value_short own (decimal n) 11 numeral.0.1 at_most, numeral.1),
        λ below. length-decimal-le 11 n (omega arith) below fits,
      );
    }
