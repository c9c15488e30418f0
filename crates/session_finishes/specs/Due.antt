-- What a session comes to, by its kind: the tag that is due, and what a finish that writes it leaves.
-- Assumes nothing.
use Rattle.std.specs.Prelude.{List, ℕ, length}
use Rattle.answers.specs.Answers as answers
use Rattle.promises.specs.OneShot.{on_done}
use Rattle.promises.specs.Session as promise
use Rattle.promises.specs.SessionCalls.{Wrote}
use Rattle.aegis128l.specs.Aegis128L.{Blocks}
use Rattle.aegis128l.specs.Cipher.{aegis128l, mac_of_aegis128l}
use Rattle.session.specs.View.{mark_of}
use Rattle.session.specs.declared.Kind.{Kind}
use Rattle.session.specs.declared.Kind.TheVariants.{Sealing, Opening, Macing}

-- the tag of a session of this kind
abbrev pub due : Kind → promise.Session Blocks → List ℕ
due Sealing s = promise.session_tag aegis128l s
due Opening s = promise.session_tag aegis128l s
due Macing s = promise.session_mac aegis128l mac_of_aegis128l s

-- a finish of this kind that writes the tag: 8, 1 and nothing changed; or 0, the tag, and a session that is over
abbrev pub due_written : Kind → promise.Session Blocks → List ℕ → Wrote Blocks
due_written kind s tag =
    on_done (answers.finish (promise.live 32 (mark_of kind) s) (length tag) s.tag_size)
    (λ a. record { answer = a; session = s; out = tag })
    (record { answer = 0; session = promise.ended aegis128l; out = due kind s })
