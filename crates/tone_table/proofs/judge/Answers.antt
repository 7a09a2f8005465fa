-- `tone_table::judge` meets its contract. Each turn judges one pattern.
use borrow.Author.Rules.{rules}
use Rattle.tone_table.proofs.Walks.{rows, row_header_fault, row_body_fault, row_on}
use Rattle.tone_table.proofs.judge.Goals as goal

pub returns-in_err-own : goal.returns-in_err-own
returns-in_err-own c = let e = row_header_fault c.loop-i.invariant c.loop-i-test.true c.header.ensures c.in_err-own.was in search rules

pub returns-in_err-more : goal.returns-in_err-more
returns-in_err-more c = let e = row_body_fault c.loop-i.invariant c.loop-i-test.true c.header.ensures c.in_ok-own.was c.body.ensures c.in_err-more.was in search rules

pub loop-i-preserved : goal.loop-i-preserved
loop-i-preserved c = row_on c.loop-i.invariant c.loop-i-test.true c.header.ensures c.in_ok-own.was c.body.ensures c.in_ok-more.was c.longer-bits.ensures

pub returns-then-patterns-eq0 : goal.returns-then-patterns-eq0
returns-then-patterns-eq0 c = search (rows, rules)

pub returns-then-patterns-gt255 : goal.returns-then-patterns-gt255
returns-then-patterns-gt255 c = search (rows, rules)
