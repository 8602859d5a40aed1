-- How an alphabet is seen.
use Rattle.alb_syntax.specs.declared.monomial.Alphabet.{Alphabet}
use Rattle.alb_syntax.specs.Reading.{Lettering}

abbrev pub lettering : Alphabet → Lettering
lettering s = record { letters = s.letters.now; end = s.end }
