-- The archive as the logic runs it: each crate's table of its functions, with their code, and what a call of a function's name does where these are the
-- functions that there are. The exported functions call no other, of the library or of C.
-- Assumes nothing.
use Rattle.std.specs.Prelude.{[], ◌∷◌}
use lib.Chars.{codes}
use prog.Linked.{World, in_world}
use prog.LinkedThreads.{tie_t}
use prog.Routine.{Env}
use Rattle.aes.proofs.Linked as aes
use Rattle.answers.proofs.Linked as answers
use Rattle.lent.proofs.Linked as lent
use Rattle.aegis128l.proofs.Linked as aegis128l
use Rattle.aegis128l_core.proofs.Linked as aegis128l_core
use Rattle.oneshot.proofs.Linked as oneshot
use Rattle.session.proofs.Linked as session
use Rattle.session_pieces.proofs.Linked as session_pieces
use Rattle.session_finishes.proofs.Linked as session_finishes
use Rattle.thin.proofs.Linked as thin

abbrev pub archive : World
archive =
    (codes "aes", aes.table) ∷
    (codes "answers", answers.table) ∷
    (codes "lent", lent.table) ∷
    (codes "aegis128l", aegis128l.table) ∷
    (codes "aegis128l_core", aegis128l_core.table) ∷
    (codes "oneshot", oneshot.table) ∷
    (codes "session", session.table) ∷
    (codes "session_pieces", session_pieces.table) ∷
    (codes "session_finishes", session_finishes.table) ∷
    (codes "thin", thin.table) ∷
    []

-- a call of a name runs the code that its crate's table has for it
abbrev pub linked : Env
linked = tie_t (in_world archive)
