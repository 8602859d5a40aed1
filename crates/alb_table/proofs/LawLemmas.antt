-- The laws of right tables.
use Rattle.alb_poly.proofs.Consequence.{alike_poly, poly_alike}
use Rattle.alb_table.specs.Laws.{FactorsAreNormal, MonomialValuesDecide, RightTableIsUnique, RightTablesGrow, FirstTableIsRight}
use Rattle.alb_table.proofs.Normal.{normal-left, normal-right}
use Rattle.alb_table.proofs.Right.{right-congruent, right-normal, consequence-zero_value, zero_value-consequence, normal_form-unique, basis-unique, entry-unique, right-grows, first-right}

pub factors-are-normal : FactorsAreNormal
factors-are-normal p fs l r n = (normal-left p fs l r n, normal-right p fs l r n)

pub monomial-values-decide : MonomialValuesDecide
monomial-values-decide p fs target d basis entry g pos multi high right within = record {
  normal = right-normal p pos fs multi high target d basis entry right g within;
  congruent = right-congruent p pos fs multi high target d basis entry right g within;
  unique = λ h n c. poly_alike (normal_form-unique p pos fs multi high target d basis entry right g h within n c);
  zero = (
    λ z. zero_value-consequence p pos fs multi high target d basis entry right g within (alike_poly z),
    λ c. poly_alike (consequence-zero_value p pos fs multi high target d basis entry right g within c),
  );
}

pub right-unique : RightTableIsUnique
right-unique p fs target d basis basis' entry entry' pos multi high r s = record {
  bases = λ t ty. basis-unique p fs t (basis t) (basis' t) (r.bases t ty) (s.bases t ty);
  entries = λ b c hb hc w. poly_alike (entry-unique p pos fs multi high target d basis basis' entry entry' r s b c hb hc w);
}

pub right-tables-grow : RightTablesGrow
right-tables-grow p fs target d basis basis' entry entry' pos multi high big r g =
    right-grows p pos fs multi high target d big basis basis' entry entry' r g

pub first-table : FirstTableIsRight
first-table p fs target basis entry multi high f = first-right p fs multi high target basis entry f.generators f.none
