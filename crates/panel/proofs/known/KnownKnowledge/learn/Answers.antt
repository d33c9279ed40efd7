use Rattle.panel.proofs.known.KnownKnowledge.learn.Goals as goal

pub returns-in_ok-learn-in-Worlds : goal.returns-in_ok-learn-in-Worlds
returns-in_ok-learn-in-Worlds c = rw c.in-Worlds.is c.in_ok-learn-in-Worlds.ensures
