-- `tone_judge::patterns` meets its contract. Each turn judges one pattern.
use Rattle.tone_judge.proofs.Tallies.{kept_part, kept_recall, tally_bad, tally_counts, tally_done, tally_notes, tally_on, tally_part, tally_unknown, tallies}
use borrow.Author.Rules.{rules}
use Rattle.tone_judge.proofs.patterns.Goals as goal
use Rattle.tone_judge.proofs.patterns.Goals.{then-cell-ne0, else-cell-ne0}

pub left_at-named-requires : goal.left_at-named-requires
left_at-named-requires c = search (tallies, rules)

pub none-count-requires : goal.none-count-requires
none-count-requires c = search (tallies, rules)

pub none-cut-requires : goal.none-cut-requires
none-cut-requires c = search (tallies, rules)

pub loop-left-init : goal.loop-left-init
loop-left-init c = search (tallies, rules)

pub pattern-requires : goal.pattern-requires
pattern-requires c = search (tallies, rules)

pub own_part-wished-requires : goal.own_part-wished-requires
own_part-wished-requires c = tally_part c.loop-left.invariant c.loop-left-test.true c.pattern.ensures c.in_ok-single.was

pub overflow_cast-id : goal.overflow_cast-id
overflow_cast-id c = search (tallies, rules)

pub offset_bounds-parts-id : goal.offset_bounds-parts-id
offset_bounds-parts-id c = search (tallies, rules)

pub bounds-parts-id : goal.bounds-parts-id
bounds-parts-id c = search (tallies, rules)

pub part_after-part-requires : goal.part_after-part-requires
part_after-part-requires c = search (tallies, rules)

pub offset_bounds-parts-id-then-cell-ne0 : goal.offset_bounds-parts-id-then-cell-ne0
offset_bounds-parts-id-then-cell-ne0 c = search (tallies, rules)

pub bounds-parts-id-then-cell-ne0 : goal.bounds-parts-id-then-cell-ne0
bounds-parts-id-then-cell-ne0 c = search (tallies, rules)

pub enum_told-1 : goal.enum_told-1
enum_told-1 c = search (tallies, rules)

pub with-count-requires : goal.with-count-requires
with-count-requires c = (search (tally_counts, rules), tally_notes c.loop-left.invariant c.loop-left-test.true c.pattern.ensures c.in_ok-single.was c.own_part-wished.ensures c.part_after-part.ensures c.in-Some.is, search rules)

pub overflow_add-table : goal.overflow_add-table
overflow_add-table c = search (tallies, rules)

pub overflow_sub-left : goal.overflow_sub-left
overflow_sub-left c = search (tallies, rules)

pub loop-left-smaller : goal.loop-left-smaller
loop-left-smaller c = search (tallies, rules)

pub loop-left-preserved : goal.loop-left-preserved
loop-left-preserved c =
    elim c.if-cell-ne0.branch [
      | then-cell-ne0 w ↦ let told = kept_part c.in_ok-single.single.value.cell c.part_after-part.result w.if-cell-ne0.true w.parts-is in tally_on c.loop-left.invariant c.loop-left-test.true c.pattern.ensures c.in_ok-single.was c.own_part-wished.ensures c.part_after-part.ensures c.in-Some.is c.with-count.ensures told
      | else-cell-ne0 w ↦ let told = kept_recall c.in_ok-single.single.value.cell c.part_after-part.result w.if-cell-ne0.false w.parts-is in tally_on c.loop-left.invariant c.loop-left-test.true c.pattern.ensures c.in_ok-single.was c.own_part-wished.ensures c.part_after-part.ensures c.in-Some.is c.with-count.ensures told
    ]

pub returns : goal.returns
returns c = tally_done c.loop-left.invariant c.loop-left-test.false c.up_to.ensures

pub returns-in_err-single : goal.returns-in_err-single
returns-in_err-single c = search (tally_bad c.loop-left.invariant c.loop-left-test.true c.pattern.ensures c.in_err-single.was, rules)

pub returns-in_default : goal.returns-in_default
returns-in_default c = tally_unknown c.loop-left.invariant c.loop-left-test.true c.pattern.ensures c.in_ok-single.was c.own_part-wished.ensures c.part_after-part.ensures c.at.ensures c.in_default.is
