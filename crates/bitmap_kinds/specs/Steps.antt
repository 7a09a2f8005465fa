-- How the code goes about reading. No promise of a public call cites this.
use Rattle.std.specs.Prelude.{ℕ, ◌+◌, ◌-◌, List, length, ltb, Result}
use Rattle.bits.specs.Choice.{pick}
use Rattle.bits.specs.Outcome.{Outcome, accepted, refused}
use Rattle.bits.specs.Places.{octet_count}
use Rattle.bits.specs.Refusals.{answered}
use Rattle.bits.specs.declared.OctetCount.{OctetCount}
use Rattle.bits.specs.declared.refusal.Refusal.{Refusal}
use Rattle.bitmap_ahead.specs.declared.Kind.{Kind}
use Rattle.bitmap_ahead.specs.declared.Kind.TheVariants.{Plain, Icon, Logo}
use Rattle.bitmap_ahead.specs.Ahead.{start_of, stands}
use Rattle.bitmap_kinds.specs.declared.Field.{Field}
use Rattle.bitmap_kinds.specs.declared.Field.TheVariants.{Mcc, Mnc, Date, Image}
use Rattle.bitmap_kinds.specs.declared.Stretch.{Stretch}
use Rattle.bitmap_kinds.specs.declared.Fields.{Fields}
use Rattle.bitmap_kinds.specs.Promises.{stretch}

-- where the bitmap begins, or the refusal that the part ahead meets
unfoldable pub behind : Kind → List ℕ → Outcome ℕ
behind kind m = pick (ltb (length m) (start_of kind m + 4)) (refused 2 0) (pick (stands kind m) (accepted (start_of kind m)) (refused 20 0))

-- the answer to it
abbrev pub start_answer : Kind → List ℕ → Result OctetCount Refusal
start_answer kind m = answered octet_count (behind kind m)

-- the stretches of a message that has an image alone
abbrev pub image_alone : Stretch → Fields
image_alone image = record { mcc = stretch 0 0; mnc = stretch 0 0; date = stretch 0 0; image = image }

-- the stretches of a message of n octets whose bitmap begins at a place
abbrev pub fields_at : Kind → ℕ → ℕ → Fields
fields_at Plain start n = image_alone (stretch (start + 4) (n - (start + 4)))
fields_at Icon start n = image_alone (stretch (start + 4) (n - (start + 4)))
fields_at Logo start n = record { mcc = stretch 1 3; mnc = stretch 4 2; date = stretch 6 (start - 7); image = stretch (start + 4) (n - (start + 4)) }

-- one of them
abbrev pub one_of : Field → Fields → Stretch
one_of Mcc f = f.mcc
one_of Mnc f = f.mnc
one_of Date f = f.date
one_of Image f = f.image
