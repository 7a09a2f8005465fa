-- Every sample beside P1 to P12 holds of the rules.
use Rattle.bitmap.proofs.Samples.{bitmap_samples}
use Rattle.bitmap_kinds.proofs.Samples.{kind_samples}
use Rattle.pack.proofs.Samples.{pack_samples}
use Rattle.salvage.proofs.Samples.{salvage_samples}
use Rattle.list_rules.proofs.Samples as lengths
use Rattle.samples.specs.Pinned.{Pinned}
use Rattle.samples.proofs.Message.{messages}
use Rattle.samples.proofs.Table.{readings, writings}
use Rattle.samples.proofs.Titles.{titles}
use Rattle.samples.proofs.Label.{labels}
use Rattle.samples.proofs.List.{lists}
use Rattle.samples.proofs.Endless.{endless}
use Rattle.samples.proofs.Drift.{drift}
use Rattle.samples.proofs.Edits.{edits}
use Rattle.samples.proofs.Origins.{origins}
use Rattle.samples.proofs.Bounds.{bounds}
use Rattle.samples.proofs.Due.{dues}
use Rattle.samples.proofs.Text.{texts}

pub pinned : Pinned
pinned = record {
  messages = messages;
  readings = readings;
  writings = writings;
  titles = titles;
  labels = labels;
  lists = lists;
  endless = endless;
  drift = drift;
  durations = lengths.durations;
  edits = edits;
  origins = origins;
  bounds = bounds;
  dues = dues;
  bitmaps = bitmap_samples;
  kinds = kind_samples;
  packs = pack_samples;
  salvages = salvage_samples;
  texts = texts;
}
