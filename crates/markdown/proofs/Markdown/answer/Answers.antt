use Rattle.markdown.proofs.Markdown.answer.Goals as goal

pub returns-in-Load-clause-past : goal.returns-in-Load-clause-past
returns-in-Load-clause-past g c = rw c.in-Load.is (c.load-it.ensures.past)

pub returns-in-Streaming-clause-past : goal.returns-in-Streaming-clause-past
returns-in-Streaming-clause-past g c = rw c.in-Streaming.is (c.streaming.ensures.past)

pub returns-in-Table-clause-past : goal.returns-in-Table-clause-past
returns-in-Table-clause-past g c = rw c.in-Table.is (c.table-it.ensures.past)

pub returns-in-Height-clause-past : goal.returns-in-Height-clause-past
returns-in-Height-clause-past g c = rw c.in-Height.is (c.height-it.ensures.past)

pub returns-in-Paint-clause-past : goal.returns-in-Paint-clause-past
returns-in-Paint-clause-past g c = rw c.in-Paint.is (c.render-it.ensures.past)
