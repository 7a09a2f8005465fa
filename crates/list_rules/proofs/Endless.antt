-- Loop 15: two passes are listed, the return mark stands on the second, and whoever goes on from it hears endless passes.
use Prim.Native.Nat.{ℕ, zero, suc, ◌+◌, ◌*◌, ◌≤◌}
use native.Mathlib.Omega.{arith}
use native.Mathlib.Nat.{zero-add}
use mathlib.Core.Path.{◌≡◌, refl, sym, ap, ap₂, ◌∙◌}
use mathlib.Core.List.{List, [], ◌∷◌, ◌++◌, append_assoc, append-nil}
use lib.ListN.{length, drop, length-append}
use lib.Seq.{drop_at}
use lib.Dec.{eqb}
use borrow.Author.Tests.{ne_eqb}
use Rattle.bits.specs.Choice.{pick}
use Rattle.tone.specs.Tone.{Pattern, Tone, Formed}
use Rattle.tone_elements.specs.Answers.{notes}
use Rattle.list_count.specs.Bodies.{Remembered, no_bodies, no_mark, body_of, remember}
use Rattle.list_count.proofs.Bodies.{endless_passes}
use Rattle.list_rules.specs.declared.Entry.{Entry}
use Rattle.list_rules.specs.Duration.{beats, units, microseconds, left_over}
use Rattle.list_rules.specs.Sounding.{State, at_start, applied, fraction_after, sounded, numbers}
use Rattle.list_rules.specs.Playing.{Played, Listing, step, pass, begun, one_pass, passes, pattern_played, next_header, play, playing_list, mark_at}
use Rattle.list_rules.proofs.Joining.{state_after, bodies_after, NoneEndless, listed_ahead_lem, play_last, joined, same_behind}
use Rattle.list_rules.proofs.Headers.{pass_header}
use Rattle.list_rules.proofs.Counts.{pass_count}
use Rattle.list_rules.proofs.Bounds.{list_most}
use Rattle.list_rules.proofs.Settling.{pass_settles}

-- ---- the list

-- two passes are listed
pub endless_twice : (s : State) (bodies : List Remembered) (p : Pattern) → p.loop ≡ 15 → pattern_played s bodies p ≡ passes 15 2 s (body_of bodies p)
unfolding pattern_played
endless_twice s bodies p h = ap₂ (λ (l n : ℕ). passes l n s (body_of bodies p)) h (endless_passes p.loop h)

-- listing stops with it
pub none_behind : (s : State) (bodies : List Remembered) (n : ℕ) (ps : List Pattern) (p : Pattern) (qs : List Pattern) → p.loop ≡ 15
    → play s bodies n (ps ++ p ∷ qs) ≡ play s bodies n (ps ++ p ∷ [])
none_behind s bodies n ps p qs h = same_behind s bodies n ps (p ∷ qs) (p ∷ []) (λ s n. play_last s (bodies_after bodies ps) n p qs h ∙ sym (play_last s (bodies_after bodies ps) n p [] h))

-- ---- the passes

-- from the same settings, passes of one header begin alike
same_beginning : (s r : State) → s.settings ≡ r.settings → s.header ≡ r.header → begun 15 s ≡ begun 15 r
same_beginning s r e h = λ i. record { settings = e i; fraction = 0; header = h i; position = 0 }

-- a third pass would equal the second: from the state after two passes, a pass of the body gives the second pass's entries, since
-- each pass begins with a restart
pub third_pass_is_second : (s : State) (b : List ℕ) → (one_pass 15 (passes 15 2 s b).after b).entries ≡ (one_pass 15 (one_pass 15 s b).after b).entries
third_pass_is_second s b =
    let one = (one_pass 15 s b).after in
    let again = begun 15 one in
    ap (λ (r : State). (pass r b).entries) (same_beginning (pass again b).after one (pass_settles (begun 15 s) again b refl) (pass_header again b))

-- the same entries so many times
abbrev pub repeated : ℕ → List Entry → List Entry
repeated zero rs = []
repeated (suc k) rs = rs ++ repeated k rs

-- so every pass behind the first equals the second
pub later_passes : (k : ℕ) (s : State) (b : List ℕ) → (passes 15 k (one_pass 15 s b).after b).entries ≡ repeated k (one_pass 15 (one_pass 15 s b).after b).entries
later_passes zero s b = refl
later_passes (suc k) s b =
    let one = (one_pass 15 s b).after in
    ap (λ (rs : List Entry). (one_pass 15 one b).entries ++ rs) (later_passes k one b ∙ ap (repeated k) (third_pass_is_second s b))

-- the chime that is loud in its first round alone: C as a quarter, and then volume 2
abbrev pub chime : List ℕ
chime = 65576 ∷ 327682 ∷ []

-- its first three passes at the start: volume 7, and then 2 for good
pub chime_passes : numbers (passes 15 3 at_start chime).entries ≡ 1287 ∷ 952380 ∷ 0 ∷ 1282 ∷ 952380 ∷ 0 ∷ 1282 ∷ 952380 ∷ 0 ∷ []
unfolding step applied fraction_after sounded beats units microseconds left_over
chime_passes = refl

-- so a second pass need not equal the first, and one pass would not do
pub second_pass_differs : (one_pass 15 at_start chime).entries ≡ (one_pass 15 (one_pass 15 at_start chime).after chime).entries → ⊥
unfolding step applied fraction_after sounded beats units microseconds left_over
second_pass_differs h = let e : ◌≡◌ {A = ℕ} 7 2 = ap (λ (rs : List Entry). volume_of rs) h in omega arith
  where
    volume_of : List Entry → ℕ
    volume_of [] = 0
    volume_of (r ∷ rs) = r.volume

-- ---- the mark

-- where one pass of a body adds no entry, none does
pub silent_alike : (s r : State) (b : List ℕ) → (pass s b).entries ≡ [] → (pass r b).entries ≡ []
silent_alike s r b h = none (pass r b).entries (pass_count r b ∙ sym (pass_count s b) ∙ ap length h)
  where
    none : (rs : List Entry) → length rs ≡ 0 → rs ≡ []
    none [] e = refl
    none (x ∷ rs) e = absurd (omega arith)

-- the first pass of a pattern with loop 15 behind others, from the state and the bodies that these leave
abbrev pub first_pass : State → List Remembered → List Pattern → Pattern → Played
first_pass s bodies ps p = one_pass 15 (state_after s bodies ps) (body_of (bodies_after bodies ps) p)

-- its second, from the state that the first leaves
abbrev pub second_pass : State → List Remembered → List Pattern → Pattern → Played
second_pass s bodies ps p = one_pass 15 (first_pass s bodies ps p).after (body_of (bodies_after bodies ps) p)

module _ (s : State) (bodies : List Remembered) (n : ℕ) (ps : List Pattern) (p : Pattern) (qs : List Pattern) (h : NoneEndless ps) (k : p.loop ≡ 15) where
  abbrev listed_ahead : List Entry
  listed_ahead = (play s bodies n ps).entries

  abbrev first : List Entry
  first = (first_pass s bodies ps p).entries

  abbrev second : List Entry
  second = (second_pass s bodies ps p).entries

  -- the entries ahead of the first loop 15, and then its two passes, with the mark that these give
  pub endless_list : play s bodies n (ps ++ p ∷ qs) ≡ record { entries = listed_ahead ++ (first ++ second); mark = mark_at (n + length listed_ahead) first }
  endless_list =
      let m = n + length listed_ahead in
      joined s bodies n ps (p ∷ qs) h
      ∙ ap (listed_ahead_lem listed_ahead) (play_last (state_after s bodies ps) (bodies_after bodies ps) m p qs k)
      ∙ ap (λ (rs : List Entry). record { entries = listed_ahead ++ rs; mark = mark_at m first })
      (ap (λ d. d.entries) (endless_twice (state_after s bodies ps) (bodies_after bodies ps) p k) ∙ ap (λ (rs : List Entry). first ++ rs) (append-nil second))

  -- both passes count: twice the notes of the body
  pub endless_count : length (play s bodies n (ps ++ p ∷ qs)).entries ≡ length listed_ahead + notes (body_of (bodies_after bodies ps) p) * 2
  endless_count =
      let b = body_of (bodies_after bodies ps) p in
      ap (λ (g : Listing). length g.entries) endless_list
      ∙ length-append listed_ahead (first ++ second)
      ∙ (rw (length-append first second, pass_count (begun 15 (state_after s bodies ps)) b, pass_count (begun 15 (first_pass s bodies ps p).after) b) (omega arith))

  -- the mark is the position of the second pass's first entry: so many as there are entries ahead of it
  pub mark_there : 1 ≤ length first → (play s bodies n (ps ++ p ∷ qs)).mark ≡ n + length (listed_ahead ++ first)
  mark_there some = ap (λ (g : Listing). g.mark) endless_list ∙ there first some
    where
      there : (rs : List Entry) → 1 ≤ length rs → mark_at (n + length listed_ahead) rs ≡ n + length (listed_ahead ++ rs)
      there [] h = let z : ⊥ = omega arith in absurd z
      there (r ∷ rs) h = rw (length-append listed_ahead (r ∷ rs)) (omega arith)

  -- none where a pass adds no entry
  pub mark_silent : first ≡ [] → (play s bodies n (ps ++ p ∷ qs)).mark ≡ no_mark
  mark_silent none = ap (λ (g : Listing). g.mark) endless_list ∙ ap (mark_at (n + length listed_ahead)) none

-- none where there is no loop 15
pub mark_none : (s : State) (bodies : List Remembered) (n : ℕ) (ps : List Pattern) → NoneEndless ps → (play s bodies n ps).mark ≡ no_mark
mark_none s bodies n [] h = refl
mark_none s bodies n (p ∷ ps) h = rw (ne_eqb p.loop 15 h.0) (mark_none (next_header (pattern_played s bodies p).after) (remember bodies p) (n + length (pattern_played s bodies p).entries) ps h.1)

-- ---- the player

-- what a player comes back to: the entries from the return mark on; with no mark there are none
abbrev pub from_mark : Listing → List Entry
from_mark g = pick (eqb g.mark no_mark) [] (drop g.mark g.entries)

-- what it hears: the list, and then k rounds from the mark
abbrev pub heard : ℕ → Listing → List Entry
heard k g = g.entries ++ repeated k (from_mark g)

-- behind the entries ahead and the first pass stands the second
from_second : (a f b : List Entry) → length (a ++ (f ++ b)) ≤ 975375 → (f ≡ [] → b ≡ []) → from_mark (record { entries = a ++ (f ++ b); mark = mark_at (length a) f }) ≡ b
from_second a [] b most silent = sym (silent refl)
from_second a (r ∷ f) b most silent =
    let m = length a + length (r ∷ f) in
    let few : m ≤ 975375 = omega (arith, length-append a ((r ∷ f) ++ b), length-append (r ∷ f) b) in
    rw (ne_eqb m no_mark (λ e. omega arith))
    (ap (drop m) (sym (append_assoc a (r ∷ f) b)) ∙ drop_at (a ++ (r ∷ f)) b m (length-append a (r ∷ f)))

module _ (t : Tone) (formed : Formed t) (ps : List Pattern) (p : Pattern) (qs : List Pattern) (split : t.patterns ≡ ps ++ p ∷ qs) (h : NoneEndless ps) (e : p.loop ≡ 15) where
  abbrev before : List Entry
  before = (play at_start no_bodies 0 ps).entries

  abbrev one : Played
  one = first_pass at_start no_bodies ps p

  abbrev two : Played
  two = second_pass at_start no_bodies ps p

  listed : playing_list t ≡ record { entries = before ++ (one.entries ++ two.entries); mark = mark_at (length before) one.entries }
  unfolding playing_list
  listed =
      ap (play at_start no_bodies 0) split ∙ endless_list at_start no_bodies 0 ps p qs h e
      ∙ ap (λ (n : ℕ). record { entries = before ++ (one.entries ++ two.entries); mark = mark_at n one.entries }) (zero-add (length before))

  -- from the mark on stands the second pass, whole
  pub second_from_mark : from_mark (playing_list t) ≡ (second_pass at_start no_bodies ps p).entries
  second_from_mark =
      let most = rw (ap (λ (g : Listing). g.entries) listed) at (list_most t formed) in
      ap from_mark listed ∙ from_second before one.entries two.entries most (silent_alike (begun 15 (state_after at_start no_bodies ps)) (begun 15 one.after) (body_of (bodies_after no_bodies ps) p))

  -- through the list, and then k rounds from the mark: the entries ahead of the endless pattern, and then k + 2 passes of it
  pub heard_for_ever : (k : ℕ) → heard k (playing_list t) ≡ (play at_start no_bodies 0 ps).entries ++ (passes 15 (k + 2) (state_after at_start no_bodies ps) (body_of (bodies_after no_bodies ps) p)).entries
  heard_for_ever k =
      let more : k + 2 ≡ suc (suc k) = omega arith in
      rw (second_from_mark, ap (λ (g : Listing). g.entries) listed, more, later_passes (suc k) (state_after at_start no_bodies ps) (body_of (bodies_after no_bodies ps) p))
      (append_assoc before (one.entries ++ two.entries) (repeated k two.entries)
      ∙ ap (λ (rs : List Entry). before ++ rs) (append_assoc one.entries two.entries (repeated k two.entries)))

-- with no loop 15 the list alone
pub heard_once : (t : Tone) (k : ℕ) → NoneEndless t.patterns → heard k (playing_list t) ≡ (playing_list t).entries
unfolding playing_list
heard_once t k h = rw (mark_none at_start no_bodies 0 t.patterns h) (nothing k)
  where
    nothing : (k : ℕ) → (playing_list t).entries ++ repeated k [] ≡ (playing_list t).entries
    nothing zero = append-nil (playing_list t).entries
    nothing (suc k) = nothing k
