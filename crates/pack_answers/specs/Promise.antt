-- What the calls on packs promise, by the numbers of their answers.
use Rattle.std.specs.Prelude.{ℕ, ◌≡◌, List, length, take, drop}
use Rattle.written.specs.declared.WrittenAnswer.{WrittenAnswer}
use Rattle.written.specs.Written.{FillsNumbers}
use Rattle.pack.specs.Pack.{read_pack, nth_row, write_pack}
use Rattle.pack.specs.Promises.{ReadNumbers, read_numbers, FindNumbers, find_numbers, stretch_of}
use Rattle.salvage.specs.Salvage.{salvage}
use Rattle.salvage.specs.Promises.{SalvageNumbers, salvage_numbers, pack_after, report_after}
use Rattle.pack_answers.specs.declared.PackAnswer.{PackAnswer}
use Rattle.pack_answers.specs.declared.StretchAnswer.{StretchAnswer}
use Rattle.pack_answers.specs.declared.SalvageAnswer.{SalvageAnswer}

-- the numbers of a pack that was read, as the answer holds them
abbrev pub pack_as : ReadNumbers → PackAnswer
pack_as n = record { refusal = n.refusal; place = n.place; messages = n.messages }

-- `read_pack`: every number
pub record PackReadExport (p : List ℕ) (r : PackAnswer) : Type 0 where
  pub answer : r ≡ pack_as (read_numbers (read_pack p))

-- the numbers of a message that was found, as the answer holds them
abbrev pub stretch_as : FindNumbers → StretchAnswer
stretch_as n = record { refusal = n.refusal; place = n.place; start = n.start; length = n.length }

-- `find_message`: every number, and the stretch of the pack that is the message
pub record PackMessageExport (p : List ℕ) (n : ℕ) (r : StretchAnswer) : Type 0 where
  pub answer : r ≡ stretch_as (find_numbers (nth_row p n))
  pub stretch : stretch_of (nth_row p n) p ≡ take r.length (drop r.start p)

-- `write_pack`: every number and every octet of the buffer
abbrev pub PackWriteExport : List ℕ → List ℕ → List ℕ → List ℕ → WrittenAnswer → Type 0
PackWriteExport octets ns out out' r = FillsNumbers (write_pack octets ns (length out)) out out' r

-- the numbers of tones that were got out, as the answer holds them
abbrev pub salvage_as : SalvageNumbers → SalvageAnswer
salvage_as n = record { refusal = n.refusal; place = n.place; messages = n.messages; octets = n.octets; skipped = n.skipped }

-- `salvage_pack`: every number, every octet of the buffer and every number of the report
pub record PackSalvageExport (p out report out' report' : List ℕ) (r : SalvageAnswer) : Type 0 where
  pub answer : r ≡ salvage_as (salvage_numbers (salvage p (length out) (length report)))
  pub pack : out' ≡ pack_after (salvage p (length out) (length report)) out
  pub reported : report' ≡ report_after (salvage p (length out) (length report)) report
