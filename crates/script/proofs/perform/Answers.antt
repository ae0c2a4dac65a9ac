use Rattle.counting.proofs.Prelude.{refl}
use Rattle.script.specs.declared.Command.{Command}
use Rattle.script.specs.Performing.{said_of, Effect}
use Rattle.script.proofs.Performing.{performs}
use Rattle.script.proofs.perform.Goals as goal

pub returns-in-Words : goal.returns-in-Words
unfolding Effect
returns-in-Words c =
    performs _ _ (Command.Words _) _ c.in-Words.is (_, c.start.ensures, c.from.ensures.session, c.from.ensures.said)

pub returns-in-Add : goal.returns-in-Add
unfolding Effect
returns-in-Add c =
    performs _ _ (Command.Add _ _) _ c.in-Add.is (_, c.grow.ensures, refl, c.from-in-Add.ensures)

pub returns-in-Leads : goal.returns-in-Leads
unfolding Effect
returns-in-Leads c = performs _ _ (Command.Leads _ _) _ c.in-Leads.is (_, c.leads.ensures, refl, c.from-in-Leads.ensures)

pub returns-in-Unreadable : goal.returns-in-Unreadable
unfolding Effect said_of
returns-in-Unreadable c = performs _ _ Command.Unreadable _ c.in-Unreadable.is (refl, refl)
