use Rattle.panel.proofs.known.KnownKnowledge.apply.Goals as goal

pub returns-in-Partial : goal.returns-in-Partial
returns-in-Partial c = rw c.in-Partial.is c.apply.ensures.meaning

pub returns-in-Worlds : goal.returns-in-Worlds
returns-in-Worlds c = rw c.in-Worlds.is c.apply-in-Worlds.ensures
