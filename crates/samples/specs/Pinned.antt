-- Samples beside P1 to P12, in the order of document 01, one collection with a single claim: each number, code and bound of the rules by its own figures.
use Rattle.bitmap.specs.Samples.{BitmapSamples}
use Rattle.bitmap_kinds.specs.Samples.{KindSamples}
use Rattle.pack.specs.Samples.{PackSamples}
use Rattle.salvage.specs.Samples.{SalvageSamples}
use Rattle.list_rules.specs.Samples.{Durations}
use Rattle.samples.specs.Message.{Messages}
use Rattle.samples.specs.Table.{Readings, Writings}
use Rattle.samples.specs.Titles.{Titles}
use Rattle.samples.specs.Label.{Labels}
use Rattle.samples.specs.List.{Lists}
use Rattle.samples.specs.Endless.{Endless}
use Rattle.samples.specs.Drift.{Drift}
use Rattle.samples.specs.Edits.{Edits}
use Rattle.samples.specs.Origins.{Origins}
use Rattle.samples.specs.Bounds.{Bounds}
use Rattle.samples.specs.Due.{Dues}
use Rattle.samples.specs.Text.{Texts}

-- all of them
pub record Pinned : Type 0 where
  pub messages : Messages
  pub readings : Readings
  pub writings : Writings
  pub titles : Titles
  pub labels : Labels
  pub lists : Lists
  pub endless : Endless
  pub drift : Drift
  pub durations : Durations
  pub edits : Edits
  pub origins : Origins
  pub bounds : Bounds
  pub dues : Dues
  pub bitmaps : BitmapSamples
  pub kinds : KindSamples
  pub packs : PackSamples
  pub salvages : SalvageSamples
  pub texts : Texts
