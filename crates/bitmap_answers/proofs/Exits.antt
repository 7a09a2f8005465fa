-- What is answered by the numbers keeps its promise.
use Prim.Native.Nat.{ℕ}
use mathlib.Core.Path.{◌≡◌, ap}
use mathlib.Core.List.{List}
use Rattle.std.specs.Prelude.{Result}
use Rattle.bits.specs.declared.refusal.Refusal.{Refusal}
use Rattle.bitmap_ahead.specs.declared.Kind.TheVariants.{Icon, Logo}
use Rattle.bitmap_kinds.specs.declared.Field.TheVariants.{Mcc, Mnc, Date, Image}
use Rattle.bitmap_kinds.specs.declared.Reading.{Reading}
use Rattle.bitmap_kinds.specs.Promises.{numbers_of_reading, ReadPromise}
use Rattle.bitmap_kinds.proofs.Calls.{read_stretches}
use Rattle.bitmap_answers.specs.declared.BitmapAnswer.{BitmapAnswer}
use Rattle.bitmap_answers.specs.declared.LogoAnswer.{LogoAnswer}
use Rattle.bitmap_answers.specs.Promise.{icon_as, IconReadExport, logo_as, LogoReadExport}

-- an icon
pub icon_told : (m : List ℕ) {x : Result Reading Refusal} {r : BitmapAnswer} → ReadPromise Icon m x → r ≡ icon_as (numbers_of_reading x) → IconReadExport m r
icon_told m p e = rw e (record { answer = ap icon_as p.numbers; image = read_stretches Icon m Image p.numbers })

-- a logo
pub logo_told : (m : List ℕ) {x : Result Reading Refusal} {r : LogoAnswer} → ReadPromise Logo m x → r ≡ logo_as (numbers_of_reading x) → LogoReadExport m r
logo_told m p e = rw e (record {
  answer = ap logo_as p.numbers;
  image = read_stretches Logo m Image p.numbers;
  mcc = read_stretches Logo m Mcc p.numbers;
  mnc = read_stretches Logo m Mnc p.numbers;
  date = read_stretches Logo m Date p.numbers;
})
