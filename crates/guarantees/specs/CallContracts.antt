-- What the code is proved to do, function by function: each exported function asks nothing of its caller, and every call of it meets the
-- predicate of crates/promises/specs/Met.antt that stands beside it here. The demands are said of these predicates, so a contract that says
-- less, or something else, leaves this record without an inhabitant (proofs/Contracts.antt). The functions are those of crates/thin; crates/thin_c
-- exports each by a call, with the same clauses.
-- Assumes nothing.
use Rattle.std.specs.Prelude.{ℕ, List, [], ◌∷◌}
use seplogic.Ra.Ura.{Ura}
use base.Logic.{emp}
use prog.Model.{Model}
use prog.Routine.{Routine}
use types.Logic.{Logic}
use contract.Monad.{fact}
use contract.Lifetimes.{Lfts}
use contract.Running.{Running}
use denote.Exit.{Seen}
use denote.RattleType.{Denots}
use denote.Signature.{Slot, type_at, types_at}
use denote.Triple.Both.{Both}
use denote.Triple.End.{Kepts, Outs}
use denote.Triple.Entry.{Res}
use denote.Triple.Spec.{Meets}
use denote.Triple.Clauses.{Ended, closing}
use Rattle.promises.specs.Met.{SealMet, SealInPlaceMet, OpenMet, OpenInPlaceMet, StreamMet, StreamXorMet, MacMet, MacCheckMet}
use Rattle.promises.specs.Met.{SealStartMet, OpenStartMet, MacStartMet, SealPieceMet, SealPieceInPlaceMet, OpenPieceMet, MacPieceMet}
use Rattle.promises.specs.Met.{SealFinishMet, OpenFinishMet, MacFinishMet, MacFinishCheckMet, AbortMet}
use Rattle.aegis128l.specs.Cipher.{aegis128l, mac_of_aegis128l}
use Rattle.session.specs.View.{session_of}
use Rattle.guarantees.specs.Archive.{linked}
use Rattle.thin.proofs as code
use Rattle.thin.specs.contracts as thin

-- ---- what is said of a call, as an `ensures` says it: of each parameter at entry and at exit, and of what is handed back

module _ {n : ℕ} (κs : Lfts n) (Back : Type 0) where
  abbrev Said : (ps : List (Slot n)) → Kepts ps → Type 1
  Said [] ks = Back → Type 0
  Said (p ∷ ps) ks = Both (type_at p κs).Denot (Seen ((type_at p κs).exit ks.0)) → Said ps ks.1

  abbrev at : (ps : List (Slot n)) (ks : Kepts ps) → Said ps ks → Denots (types_at ps κs) → Outs κs ps ks → Back → Type 0
  at [] ks P lent left r = P r
  at (p ∷ ps) ks P lent left r = at ps ks.1 (P (record { entry = lent.0; exit = left.0 })) lent.1 left.1 r

abbrev Contract : Ended → Type 1
Contract T = (κs : Lfts T.signature.lifetimes) → Said κs (Res T.signature κs) T.signature.params T.kept

module _ {M : Type 1} {𝓤 : Ura M} (𝓛 : Logic 𝓤) (𝓜 : Model 𝓤 𝓛.H) (𝓡 : Running 𝓤 𝓛.H 𝓜) where
  -- whatever a call of the function f is lent, it is safe and ends, and P is true of it: nothing is required
  abbrev Every : (f : Routine) (T : Ended) → Contract T → Type 1
  Every f T P =
      Meets 𝓛 T.signature (𝓡.run f)
      (closing 𝓛 T (λ κs lent. record {
        ghost = Unit {0};
        requires = λ _. emp 𝓤;
        ensures = λ _ r left. fact 𝓤 (at κs (Res T.signature κs) T.signature.params T.kept (P κs) lent left r);
      }))

  pub record Contracts : Type 1 where
    -- ---- the one-shots
    pub aegis128l_seal : Every (linked code.once.aegis128l_seal.Symbol.name) thin.once.aegis128l_seal.ended λ _ key nonce ad msg out tag r.
        SealMet aegis128l key.entry.now nonce.entry.now ad.entry.now msg.entry.now out.entry.now tag.entry.now
        r out.exit.now tag.exit.now
    pub aegis128l_seal_in_place : Every (linked code.once.aegis128l_seal_in_place.Symbol.name) thin.once.aegis128l_seal_in_place.ended λ _ key nonce ad buf tag r.
        SealInPlaceMet aegis128l key.entry.now nonce.entry.now ad.entry.now buf.entry.now tag.entry.now
        r buf.exit.now tag.exit.now
    pub aegis128l_open : Every (linked code.once.aegis128l_open.Symbol.name) thin.once.aegis128l_open.ended λ _ key nonce ad ct tag out r.
        OpenMet aegis128l key.entry.now nonce.entry.now ad.entry.now ct.entry.now tag.entry.now out.entry.now
        r out.exit.now
    pub aegis128l_open_in_place : Every (linked code.once.aegis128l_open_in_place.Symbol.name) thin.once.aegis128l_open_in_place.ended λ _ key nonce ad buf tag r.
        OpenInPlaceMet aegis128l key.entry.now nonce.entry.now ad.entry.now buf.entry.now tag.entry.now
        r buf.exit.now
    pub aegis128l_stream : Every (linked code.once.aegis128l_stream.Symbol.name) thin.once.aegis128l_stream.ended λ _ key nonce out r.
        StreamMet aegis128l key.entry.now nonce.entry.now out.entry.now
        r out.exit.now
    pub aegis128l_stream_xor : Every (linked code.once.aegis128l_stream_xor.Symbol.name) thin.once.aegis128l_stream_xor.ended λ _ key nonce buf r.
        StreamXorMet aegis128l key.entry.now nonce.entry.now buf.entry.now
        r buf.exit.now
    pub aegis128l_mac : Every (linked code.once.aegis128l_mac.Symbol.name) thin.once.aegis128l_mac.ended λ _ key nonce data' tag r.
        MacMet aegis128l mac_of_aegis128l key.entry.now nonce.entry.now data'.entry.now tag.entry.now
        r tag.exit.now
    pub aegis128l_mac_check : Every (linked code.once.aegis128l_mac_check.Symbol.name) thin.once.aegis128l_mac_check.ended λ _ key nonce data' tag r.
        MacCheckMet aegis128l mac_of_aegis128l key.entry.now nonce.entry.now data'.entry.now tag.entry.now
        r
    -- ---- the starts: what the lent session held does not matter
    pub aegis128l_seal_start : Every (linked code.aegis128l_seal_start.Symbol.name) thin.aegis128l_seal_start.ended λ _ s key nonce ad size r.
        SealStartMet aegis128l key.entry.now nonce.entry.now ad.entry.now size.entry
        r (session_of s.exit.now)
    pub aegis128l_open_start : Every (linked code.aegis128l_open_start.Symbol.name) thin.aegis128l_open_start.ended λ _ s key nonce ad size room r.
        OpenStartMet aegis128l key.entry.now nonce.entry.now ad.entry.now size.entry room.entry
        r (session_of s.exit.now)
    pub aegis128l_mac_start : Every (linked code.aegis128l_mac_start.Symbol.name) thin.aegis128l_mac_start.ended λ _ s key nonce size r.
        MacStartMet aegis128l key.entry.now nonce.entry.now size.entry
        r (session_of s.exit.now)
    -- ---- the calls on a lent session
    pub aegis128l_seal_piece : Every (linked code.aegis128l_seal_piece.Symbol.name) thin.aegis128l_seal_piece.ended λ _ s msg out r.
        SealPieceMet aegis128l (session_of s.entry.now) msg.entry.now out.entry.now
        r (session_of s.exit.now) out.exit.now
    pub aegis128l_seal_piece_in_place : Every (linked code.aegis128l_seal_piece_in_place.Symbol.name) thin.aegis128l_seal_piece_in_place.ended λ _ s buf r.
        SealPieceInPlaceMet aegis128l (session_of s.entry.now) buf.entry.now
        r (session_of s.exit.now) buf.exit.now
    pub aegis128l_open_piece : Every (linked code.aegis128l_open_piece.Symbol.name) thin.aegis128l_open_piece.ended λ _ s ct plain r.
        OpenPieceMet aegis128l (session_of s.entry.now) ct.entry.now plain.entry.now
        r (session_of s.exit.now) plain.exit.now
    pub aegis128l_mac_piece : Every (linked code.aegis128l_mac_piece.Symbol.name) thin.aegis128l_mac_piece.ended λ _ s data' r.
        MacPieceMet aegis128l (session_of s.entry.now) data'.entry.now
        r (session_of s.exit.now)
    pub aegis128l_seal_finish : Every (linked code.aegis128l_seal_finish.Symbol.name) thin.aegis128l_seal_finish.ended λ _ s tag r.
        SealFinishMet aegis128l (session_of s.entry.now) tag.entry.now
        r (session_of s.exit.now) tag.exit.now
    pub aegis128l_open_finish : Every (linked code.aegis128l_open_finish.Symbol.name) thin.aegis128l_open_finish.ended λ _ s tag plain r.
        OpenFinishMet aegis128l (session_of s.entry.now) tag.entry.now plain.entry.now
        r.answer r.count (session_of s.exit.now) plain.exit.now
    pub aegis128l_mac_finish : Every (linked code.aegis128l_mac_finish.Symbol.name) thin.aegis128l_mac_finish.ended λ _ s tag r.
        MacFinishMet aegis128l mac_of_aegis128l (session_of s.entry.now) tag.entry.now
        r (session_of s.exit.now) tag.exit.now
    pub aegis128l_mac_finish_check : Every (linked code.aegis128l_mac_finish_check.Symbol.name) thin.aegis128l_mac_finish_check.ended λ _ s tag r.
        MacFinishCheckMet aegis128l mac_of_aegis128l (session_of s.entry.now) tag.entry.now
        r (session_of s.exit.now)
    pub aegis128l_abort : Every (linked code.aegis128l_abort.Symbol.name) thin.aegis128l_abort.ended λ _ s plain r.
        AbortMet aegis128l (session_of s.entry.now) plain.entry.now
        r (session_of s.exit.now) plain.exit.now
