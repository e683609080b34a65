-- Numeric Comparison is never chosen. Assumes nothing.
use borrow.Author.Rules.{rules}
use mathlib.Core.Path.{◌≡◌}
use Rattle.smp_types.specs.declared.types.PairingFeatures.{PairingFeatures}
use Rattle.util.specs.declared.util.PairingMethod.TheVariants.{NumericComparison}
use Rattle.util.specs.Method.{legacy_method}

pub never_numeric : (central peripheral : PairingFeatures) → legacy_method central peripheral ≡ NumericComparison → ⊥
unfolding legacy_method
never_numeric central peripheral e = search rules
