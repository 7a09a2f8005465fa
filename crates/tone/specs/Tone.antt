-- What a tone is, when it is well formed, and its table.
use Rattle.std.specs.Prelude.{ℕ, ◌+◌, ◌*◌, ◌/◌, ◌%◌, ◌≤◌, ◌<◌, ◌≡◌, Bool, true, false, not, ◌&&◌, ◌||◌, List, [], ◌∷◌, ◌++◌, length, get_or, take, set, leb, eqb}
use Rattle.bits.specs.Choice.{pick}
use Rattle.bits.specs.Bits.{Octets}
use Rattle.tone.specs.Table.{kind, Instruction}

-- a pattern: its id, A to D as 0 to 3, its loop value, and its own instructions; with none it recalls an earlier body
pub record Pattern : Type 0 where
  pub id : ℕ
  pub loop : ℕ
  pub body : List ℕ

-- a tone: song type 1 basic or 2 temporary, UNICODE or not, the title's octets, and the patterns in message order
pub record Tone : Type 0 where
  pub song : ℕ
  pub unicode : Bool
  pub title : List ℕ
  pub patterns : List Pattern

-- what stands ahead of the patterns: the song type, UNICODE or not, the title, and how many patterns follow
pub record Front : Type 0 where
  pub song : ℕ
  pub unicode : Bool
  pub title : List ℕ
  pub count : ℕ

-- a tone's front
abbrev pub front_of : Tone → Front
front_of t = record { song = t.song; unicode = t.unicode; title = t.title; count = length t.patterns }

-- ---- headers, and the table

-- a header's specifier: how many instructions follow, 0 for a recall
abbrev pub specifier : ℕ → ℕ
specifier h = h % 256

-- a header's loop value
abbrev pub loop_of : ℕ → ℕ
loop_of h = h / 256 % 16

-- a header's pattern id
abbrev pub part_of : ℕ → ℕ
part_of h = h / 4096 % 4

-- a pattern's header: id × 4,096 + loop × 256 + specifier
abbrev pub header : Pattern → ℕ
header p = p.id * 4096 + p.loop * 256 + length p.body

-- a header and its instructions
abbrev pub pattern : ℕ → List ℕ → Pattern
pattern h b = record { id = part_of h; loop = loop_of h; body = b }

-- the tone table: each header and the instructions that follow it, in message order
abbrev pub cells : List Pattern → List ℕ
cells [] = []
cells (p ∷ ps) = header p ∷ (p.body ++ cells ps)

-- how many entries the table has
abbrev pub entries : List Pattern → ℕ
entries ps = length (cells ps)

-- the pattern at position k; past the end none, which has no body
abbrev pub pattern_at : List Pattern → ℕ → Pattern
pattern_at ps k = get_or ps k (record { id = 0; loop = 0; body = [] })

-- where its header stands in the table
abbrev pub header_cell : List Pattern → ℕ → ℕ
header_cell ps k = entries (take k ps)

-- instructions that stand under no header yet, and the patterns behind them
pub record Gathered : Type 0 where
  pub loose : List ℕ
  pub patterns : List Pattern

-- one entry more in front: a header takes the instructions behind it
abbrev pub gather_one : ℕ → Gathered → Gathered
gather_one e g =
    pick (eqb (kind e) 0)
    (record { loose = []; patterns = pattern e g.loose ∷ g.patterns })
    (record { loose = e ∷ g.loose; patterns = g.patterns })

-- a table taken apart into patterns
abbrev pub gather : List ℕ → Gathered
gather [] = record { loose = []; patterns = [] }
gather (e ∷ t) = gather_one e (gather t)

-- the patterns of a table
abbrev pub patterns_of : List ℕ → List Pattern
patterns_of t = (gather t).patterns

-- ---- which ids are defined

-- four places, A to D, each known or not yet defined
abbrev pub none_known : List Bool
none_known = false ∷ false ∷ false ∷ false ∷ []

-- a recall needs an earlier definition of its id; a definition needs nothing
abbrev pub recallable : List Bool → ℕ → Bool
recallable known h = pick (eqb (specifier h) 0) (get_or known (part_of h) false) true

-- a definition makes its id known
abbrev pub learn : List Bool → ℕ → List Bool
learn known h = pick (eqb (specifier h) 0) known (set known (part_of h) true)

-- ---- well formed, by plain conditions

-- octets that a title's character takes
abbrev pub per_character : Bool → ℕ
per_character unicode = pick unicode 2 1

-- bits that it takes
abbrev pub character_bits : Bool → ℕ
character_bits unicode = pick unicode 16 8

-- how many characters a title has
abbrev pub characters : Bool → List ℕ → ℕ
characters unicode title = length title / per_character unicode

-- the number of each character: its octet, or its two, high octet first, under UNICODE; half a character has none
abbrev pub codes : Bool → List ℕ → List ℕ
codes false title = title
codes true [] = []
codes true (half ∷ []) = []
codes true (high ∷ low ∷ title) = (high * 256 + low) ∷ codes true title

-- a title may have any character but 0 to 31 and 127 to 159, which wreck a menu line
unfoldable pub allowed_character : ℕ → Bool
allowed_character c = not (leb c 31 || (leb 127 c && leb c 159))

-- each number of a list is allowed
abbrev pub all_allowed : List ℕ → Bool
all_allowed [] = true
all_allowed (c ∷ cs) = allowed_character c && all_allowed cs

-- each character of a title is allowed
abbrev pub allowed_title : Bool → List ℕ → Bool
allowed_title unicode title = all_allowed (codes unicode title)

-- a title of whole characters, at most fifteen, each of them allowed; a temporary song has none
pub record Titled (song : ℕ) (unicode : Bool) (title : List ℕ) : Type 0 where
  pub octets : Octets title
  pub whole : per_character unicode * characters unicode title ≡ length title
  pub short : characters unicode title ≤ 15
  pub allowed : allowed_title unicode title ≡ true
  pub none : song ≡ 2 → title ≡ []

-- each is an instruction
abbrev pub Instructions : List ℕ → Type 0
Instructions [] = Unit {0}
Instructions (e ∷ b) = Instruction e × Instructions b

-- the codes of a pattern in range, and its body no longer than its header can say
pub record Sound (p : Pattern) : Type 0 where
  pub id : p.id < 4
  pub loop : p.loop < 16
  pub long : length p.body ≤ 255
  pub each : Instructions p.body

-- patterns in a row, of which each recall follows a definition of its id
abbrev pub Sequence : List Bool → List Pattern → Type 0
Sequence known [] = Unit {0}
Sequence known (p ∷ ps) = Sound p × (recallable known (header p) ≡ true) × Sequence (learn known (header p)) ps

-- a front of a basic or temporary song, its title, and 1 to 255 patterns
pub record FrontFormed (f : Front) : Type 0 where
  pub basic_or_temporary : (1 ≤ f.song) × (f.song ≤ 2)
  pub titled : Titled f.song f.unicode f.title
  pub some : 1 ≤ f.count
  pub most : f.count ≤ 255

-- a tone that document 01 allows, but for the bound on its octets
pub record Formed (t : Tone) : Type 0 where
  pub front : FrontFormed (front_of t)
  pub sequence : Sequence none_known t.patterns
