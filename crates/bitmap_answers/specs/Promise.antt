-- What reading an icon and reading a logo promise, by the numbers of their answers.
use Rattle.std.specs.Prelude.{ℕ, ◌≡◌, List, take, drop}
use Rattle.bitmap_ahead.specs.declared.Kind.TheVariants.{Icon, Logo}
use Rattle.bitmap_kinds.specs.declared.Field.TheVariants.{Mcc, Mnc, Date, Image}
use Rattle.bitmap_kinds.specs.Kinds.{reading}
use Rattle.bitmap_kinds.specs.Promises.{ReadNumbers, read_numbers, octets_of}
use Rattle.bitmap_answers.specs.declared.BitmapAnswer.{BitmapAnswer}
use Rattle.bitmap_answers.specs.declared.LogoAnswer.{LogoAnswer}

-- the numbers of an icon, as the answer holds them
abbrev pub icon_as : ReadNumbers → BitmapAnswer
icon_as n = record {
  refusal = n.refusal;
  place = n.place;
  width = n.width;
  height = n.height;
  black = n.black;
  start = n.fields.image.start.0;
  length = n.fields.image.length.0;
}

-- `read_icon`: every number, and the stretch of the message that is the image
pub record IconReadExport (m : List ℕ) (r : BitmapAnswer) : Type 0 where
  pub answer : r ≡ icon_as (read_numbers Icon (reading Icon m))
  pub image : octets_of Image (reading Icon m) ≡ take r.length (drop r.start m)

-- the numbers of a logo, as the answer holds them
abbrev pub logo_as : ReadNumbers → LogoAnswer
logo_as n = record {
  refusal = n.refusal;
  place = n.place;
  width = n.width;
  height = n.height;
  black = n.black;
  start = n.fields.image.start.0;
  length = n.fields.image.length.0;
  mcc_start = n.fields.mcc.start.0;
  mcc_length = n.fields.mcc.length.0;
  mnc_start = n.fields.mnc.start.0;
  mnc_length = n.fields.mnc.length.0;
  date_start = n.fields.date.start.0;
  date_length = n.fields.date.length.0;
}

-- `read_logo`: every number, and the stretches of the message that are the image, the two codes and the date
pub record LogoReadExport (m : List ℕ) (r : LogoAnswer) : Type 0 where
  pub answer : r ≡ logo_as (read_numbers Logo (reading Logo m))
  pub image : octets_of Image (reading Logo m) ≡ take r.length (drop r.start m)
  pub mcc : octets_of Mcc (reading Logo m) ≡ take r.mcc_length (drop r.mcc_start m)
  pub mnc : octets_of Mnc (reading Logo m) ≡ take r.mnc_length (drop r.mnc_start m)
  pub date : octets_of Date (reading Logo m) ≡ take r.date_length (drop r.date_start m)
