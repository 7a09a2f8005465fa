-- The samples of an element in which one code is due hold of the rules.
use mathlib.Core.Path.{refl}
use Rattle.bits.specs.Bits.{field, bits_n}
use Rattle.tone.specs.Reading.{element}
use Rattle.samples.specs.Due.{Dues}

pub dues : Dues
unfolding field bits_n element
dues = record { met = refl; met_behind = refl; other = refl; other_number = refl; cut = refl }
