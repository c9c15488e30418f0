-- `closed` meets its contract: what the session's machine closes to, and the lengths, make the tag that is due.
use mathlib.Core.Logic.{⊎_elim}
use Rattle.std.proofs.Common.{ap, arith, refl, sym, ◌∙◌}
use Rattle.aegis128l.specs.Aegis128L.{tag}
use Rattle.aegis128l.specs.Cipher.{aegis128l}
use Rattle.promises.specs.Session.{session_mac}
use Rattle.session.specs.View.{session_of}
use Rattle.session.specs.declared.Kind.{Kind}
use Rattle.session.proofs.LiveFacts.{formed_fill, formed_lengths, formed_tag_most, core_fill}
use Rattle.session_finishes.specs.Due.{due}
use Rattle.session_finishes.proofs.SessionTags.{tag_is}
use Rattle.session_finishes.proofs.closed.Goals as goal

pub close-requires : goal.close-requires
close-requires c = core_fill aegis128l (session_of c.args.s) _ c.core.ensures (formed_fill aegis128l _ c.requires)

pub mac_closed-requires : goal.mac_closed-requires
mac_closed-requires c = formed_fill aegis128l (session_of c.args.s) c.requires

pub invariant_of-lengths : goal.invariant_of-lengths
invariant_of-lengths c = record { within_limit = formed_lengths aegis128l (session_of c.args.s) c.requires }

pub invariant_of-lengths-in-Macing : goal.invariant_of-lengths-in-Macing
invariant_of-lengths-in-Macing c =
    let s = session_of c.args.s in
    record { within_limit = ((formed_lengths aegis128l s c.requires).1, omega (arith, formed_tag_most aegis128l s c.requires)) }

pub returns-in-Sealing : goal.returns-in-Sealing
returns-in-Sealing c =
    let t = tag_is aegis128l _ _ _ _ _ c.core.ensures refl c.close.ensures refl in
    ⊎_elim (λ e. t ∙ ap (λ (k : Kind). due k (session_of c.args.s)) (sym e)) (λ e. t ∙ ap (λ (k : Kind). due k (session_of c.args.s)) (sym e)) c.in-Sealing.is

pub returns-in-Macing : goal.returns-in-Macing
unfolding session_mac
returns-in-Macing c =
    let s = session_of c.args.s in
    (λ j. tag (c.mac_closed.ensures j) s.msg_length s.tag_size s.tag_size)
    ∙ ap (λ (k : Kind). due k s) (sym c.in-Macing.is)
