use Rattle.counting.proofs.Prelude.{sym, ap}
use Rattle.std.specs.Fmt.{digits}
use Rattle.script.specs.declared.Outcome.{Outcome}
use Rattle.script.specs.Printing.{outcome_text}
use Rattle.script.proofs.refused_text.Goals as goal

pub returns-in-Layout-clause-text : goal.returns-in-Layout-clause-text
unfolding digits
returns-in-Layout-clause-text c = sym (ap (λ k. outcome_text (Outcome.Refused k)) c.in-Layout.is)

pub returns-in-Size-clause-text : goal.returns-in-Size-clause-text
unfolding digits
returns-in-Size-clause-text c = sym (ap (λ k. outcome_text (Outcome.Refused k)) c.in-Size.is)

pub returns-in-Stranger-clause-text : goal.returns-in-Stranger-clause-text
unfolding digits
returns-in-Stranger-clause-text c = sym (ap (λ k. outcome_text (Outcome.Refused k)) c.in-Stranger.is)

pub returns-in-Double-clause-text : goal.returns-in-Double-clause-text
unfolding digits
returns-in-Double-clause-text c = sym (ap (λ k. outcome_text (Outcome.Refused k)) c.in-Double.is)

pub returns-in-Ring-clause-text : goal.returns-in-Ring-clause-text
unfolding digits
returns-in-Ring-clause-text c = sym (ap (λ k. outcome_text (Outcome.Refused k)) c.in-Ring.is)

pub returns-in-Cover-clause-text : goal.returns-in-Cover-clause-text
unfolding digits
returns-in-Cover-clause-text c = sym (ap (λ k. outcome_text (Outcome.Refused k)) c.in-Cover.is)

pub returns-in-Broken-clause-text : goal.returns-in-Broken-clause-text
unfolding digits
returns-in-Broken-clause-text c = sym (ap (λ k. outcome_text (Outcome.Refused k)) c.in-Broken.is)

pub returns-in-Short-clause-text : goal.returns-in-Short-clause-text
unfolding digits
returns-in-Short-clause-text c = sym (ap (λ k. outcome_text (Outcome.Refused k)) c.in-Short.is)

pub returns-in-Full-clause-text : goal.returns-in-Full-clause-text
unfolding digits
returns-in-Full-clause-text c = sym (ap (λ k. outcome_text (Outcome.Refused k)) c.in-Full.is)

pub returns-in-OffPage-clause-text : goal.returns-in-OffPage-clause-text
unfolding digits
returns-in-OffPage-clause-text c = sym (ap (λ k. outcome_text (Outcome.Refused k)) c.in-OffPage.is)

pub returns-in-Broad-clause-text : goal.returns-in-Broad-clause-text
unfolding digits
returns-in-Broad-clause-text c = sym (ap (λ k. outcome_text (Outcome.Refused k)) c.in-Broad.is)

pub returns-in-Floor-clause-text : goal.returns-in-Floor-clause-text
unfolding digits
returns-in-Floor-clause-text c = sym (ap (λ k. outcome_text (Outcome.Refused k)) c.in-Floor.is)
