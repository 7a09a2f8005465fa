-- Which header sounds, and which instruction of its body is next.
use Prim.Native.Nat.{ℕ, zero, suc, ◌+◌}
use native.Mathlib.Omega.{arith}
use native.Mathlib.Nat.{add-zero}
use mathlib.Core.Path.{◌≡◌, refl, sym, ◌∙◌}
use mathlib.Core.List.{List, [], ◌∷◌}
use lib.ListN.{length}
use Rattle.tone.specs.Tone.{Pattern}
use Rattle.list_count.specs.Bodies.{Remembered, passes_of, body_of, remember}
use Rattle.list_rules.specs.Sounding.{State, at_start, following}
use Rattle.list_rules.specs.Playing.{step, pass, begun, one_pass, passes, pattern_played, next_header}
use Rattle.list_rules.proofs.Joining.{state_after}

-- the first header has position 0, and so has its body's first instruction
pub start_origin : (at_start.header ≡ 0) × (at_start.position ≡ 0)
start_origin = (refl, refl)

-- each instruction, a note or not, is one position behind the one before it
pub next_position : (s : State) (e : ℕ) → (following s e).position ≡ s.position + 1
next_position s e = refl

-- a pass begins with its header's first instruction
pub pass_from_first : (loop : ℕ) (s : State) → ((begun loop s).header ≡ s.header) × ((begun loop s).position ≡ 0)
pass_from_first loop s = (refl, refl)

-- and is all of that header's
pub pass_header : (s : State) (b : List ℕ) → (pass s b).after.header ≡ s.header
unfolding step
pass_header s [] = refl
pass_header s (e ∷ b) = pass_header (following s e) b

-- it comes to the position behind its last instruction
pub pass_position : (s : State) (b : List ℕ) → (pass s b).after.position ≡ s.position + length b
unfolding step
pass_position s [] = sym (add-zero s.position)
pass_position s (e ∷ b) = pass_position (following s e) b ∙ omega arith

-- all passes of a pattern are its header's
pub passes_header : (loop n : ℕ) (s : State) (b : List ℕ) → (passes loop n s b).after.header ≡ s.header
passes_header loop zero s b = refl
passes_header loop (suc n) s b = passes_header loop n (one_pass loop s b).after b ∙ pass_header (begun loop s) b

pub pattern_header : (s : State) (bodies : List Remembered) (p : Pattern) → (pattern_played s bodies p).after.header ≡ s.header
unfolding pattern_played
pattern_header s bodies p = passes_header p.loop (passes_of p.loop) s (body_of bodies p)

-- and the next pattern's header is the next
pub header_after : (s : State) (bodies : List Remembered) (ps : List Pattern) → (state_after s bodies ps).header ≡ s.header + length ps
header_after s bodies [] = sym (add-zero s.header)
header_after s bodies (p ∷ ps) =
    let d = pattern_played s bodies p in
    let h = pattern_header s bodies p in
    header_after (next_header d.after) (remember bodies p) ps ∙ omega arith
