use Rattle.st_lines.proofs.source_text.SourceText.end_input.Goals as goal

pub returns-clause-end : goal.returns-clause-end
returns-clause-end c = λ text part holds. c.ends.ensures.end text part (c.put_cr.ensures.line text part holds)

pub returns-clause-text : goal.returns-clause-text
returns-clause-text c = λ ended text part holds. c.ends.ensures.text ended text part (c.put_cr.ensures.line text part holds)
