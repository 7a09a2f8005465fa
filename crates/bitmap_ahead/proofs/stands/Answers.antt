-- `bitmap_ahead::stands` meets its contract.
use borrow.Author.Rules.{rules}
use Rattle.bitmap_ahead.proofs.Standing.{standing}
use Rattle.bitmap_ahead.proofs.stands.Goals as goal

pub bounds-msg-0 : goal.bounds-msg-0
bounds-msg-0 c = search (standing, rules)

pub logo_stands-requires : goal.logo_stands-requires
logo_stands-requires c = search (standing, rules)

pub returns-in-Plain : goal.returns-in-Plain
returns-in-Plain c = search (standing, rules)

pub returns-in-Icon : goal.returns-in-Icon
returns-in-Icon c = search (standing, rules)

pub returns-in-Logo : goal.returns-in-Logo
returns-in-Logo c = search (standing, rules)
