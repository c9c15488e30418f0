-- The archive has the code of each exported function, and of all that it calls: so it is an environment of which the function's theorem speaks.
-- Assumes nothing.
use Rattle.std.proofs.Common.{true, refl}
use prog.Linked.{in_world}
use prog.LinkedThreads.{HasT, has-wired_t, tie_t-follows, tie_t-threads}
use prog.Wired.{Code, Wired}
use Rattle.aes.proofs.Linked as aes
use Rattle.answers.proofs.Linked as answers
use Rattle.lent.proofs.Linked as lent
use Rattle.aegis128l.proofs.Linked as aegis128l
use Rattle.aegis128l_core.proofs.Linked as aegis128l_core
use Rattle.oneshot.proofs.Linked as oneshot
use Rattle.session.proofs.Linked as session
use Rattle.session_pieces.proofs.Linked as session_pieces
use Rattle.session_finishes.proofs.Linked as session_finishes
use Rattle.thin.proofs.Linked as thin
use Rattle.thin.proofs as code
use Rattle.guarantees.specs.Archive.{archive, linked}

abbrev Has : Code → Type 0
Has = HasT (in_world archive) true

wired : (c : Code) → Has c → Wired linked c
wired = has-wired_t (in_world archive) linked (tie_t-follows (in_world archive)) (tie_t-threads (in_world archive))

-- a proof and those that follow it
infixr 5 ◌also◌
◌also◌ : {A B : Type 0} → A → B → A × B
a also b = (a, b)

-- ---- the functions of other crates that each crate calls, from the lowest on. Three call none

below-aegis128l : aegis128l.Below archive
below-aegis128l =
    aes.AesBlock_from_part archive refl tt also
    aes.AesBlock_round archive refl tt also
    aes.AesBlockBitAnd_bitand archive refl tt also
    aes.AesBlockBitXor_bitxor archive refl tt also
    lent.put archive refl tt also
    lent.tags_match archive refl tt also
    lent.xor_into archive refl tt also
    tt

below-aegis128l_core : aegis128l_core.Below archive
below-aegis128l_core =
    aegis128l.state_State_absorb archive refl below-aegis128l also
    aegis128l.state_State_block archive refl below-aegis128l also
    aegis128l.state_State_keystream archive refl below-aegis128l also
    lent.put archive refl tt also
    lent.xor_into archive refl tt also
    tt

below-oneshot : oneshot.Below archive
below-oneshot =
    aegis128l.state_State_absorb archive refl below-aegis128l also
    aegis128l.state_State_new archive refl below-aegis128l also
    aegis128l.state_State_tag archive refl below-aegis128l also
    aegis128l.state_State_verify archive refl below-aegis128l also
    aegis128l_core.Core_close archive refl below-aegis128l_core also
    aegis128l_core.Core_start archive refl below-aegis128l_core also
    aegis128l_core.Core_transform archive refl below-aegis128l_core also
    aegis128l_core.absorb_ad archive refl below-aegis128l_core also
    aegis128l_core.stream_stream_xor archive refl below-aegis128l_core also
    aes.sbox archive refl tt also
    answers.once_mac archive refl tt also
    answers.once_one_shot archive refl tt also
    answers.once_stream archive refl tt also
    lent.put archive refl tt also
    lent.wipe archive refl tt also
    tt

below-session : session.Below archive
below-session =
    aegis128l.state_State_new archive refl below-aegis128l also
    aegis128l_core.absorb_ad archive refl below-aegis128l_core also
    aes.sbox archive refl tt also
    answers.once_mac_start archive refl tt also
    answers.once_start archive refl tt also
    answers.once_tag_size archive refl tt also
    tt

below-session_pieces : session_pieces.Below archive
below-session_pieces =
    aegis128l_core.Core_absorb archive refl below-aegis128l_core also
    aegis128l_core.Core_transform archive refl below-aegis128l_core also
    aes.sbox archive refl tt also
    answers.pieces_open_piece archive refl tt also
    answers.pieces_piece archive refl tt also
    answers.pieces_seal_piece archive refl tt also
    lent.put archive refl tt also
    session.Session_core archive refl below-session also
    session.Session_is_live archive refl below-session also
    session.Session_refused archive refl below-session also
    session.Session_with_core archive refl below-session also
    session.Session_with_length archive refl below-session also
    tt

below-session_finishes : session_finishes.Below archive
below-session_finishes =
    aegis128l.state_State_absorb archive refl below-aegis128l also
    aegis128l.state_State_tag archive refl below-aegis128l also
    aegis128l.state_State_verify archive refl below-aegis128l also
    aegis128l_core.Core_close archive refl below-aegis128l_core also
    aes.sbox archive refl tt also
    answers.pieces_abort archive refl tt also
    answers.pieces_finish archive refl tt also
    answers.pieces_open_finish archive refl tt also
    lent.wipe archive refl tt also
    session.Session_core archive refl below-session also
    session.Session_ended archive refl below-session also
    session.Session_is_for archive refl below-session also
    session.Session_is_live archive refl below-session also
    session.Session_is_well_formed archive refl below-session also
    session.Session_refused archive refl below-session also
    tt

below-thin : thin.Below archive
below-thin =
    answers.Refusal_number archive refl tt also
    answers.answer archive refl tt also
    oneshot.aegis128l_open archive refl below-oneshot also
    oneshot.aegis128l_open_in_place archive refl below-oneshot also
    oneshot.aegis128l_seal archive refl below-oneshot also
    oneshot.aegis128l_seal_in_place archive refl below-oneshot also
    oneshot.mac_aegis128l_mac archive refl below-oneshot also
    oneshot.mac_aegis128l_mac_check archive refl below-oneshot also
    oneshot.stream_aegis128l_stream archive refl below-oneshot also
    oneshot.stream_aegis128l_stream_xor archive refl below-oneshot also
    session.starts_mac_start archive refl below-session also
    session.starts_open_start archive refl below-session also
    session.starts_seal_start archive refl below-session also
    session_finishes.abort archive refl below-session_finishes also
    session_finishes.mac_finish archive refl below-session_finishes also
    session_finishes.mac_finish_check archive refl below-session_finishes also
    session_finishes.open_finish archive refl below-session_finishes also
    session_finishes.seal_finish archive refl below-session_finishes also
    session_pieces.mac_piece archive refl below-session_pieces also
    session_pieces.open_piece archive refl below-session_pieces also
    session_pieces.seal_piece archive refl below-session_pieces also
    session_pieces.seal_piece_in_place archive refl below-session_pieces also
    tt

-- ---- the exported functions

pub aegis128l_abort : Wired linked code.aegis128l_abort.Symbol.code
aegis128l_abort = wired code.aegis128l_abort.Symbol.code (thin.aegis128l_abort archive refl below-thin)

pub aegis128l_mac_finish : Wired linked code.aegis128l_mac_finish.Symbol.code
aegis128l_mac_finish = wired code.aegis128l_mac_finish.Symbol.code (thin.aegis128l_mac_finish archive refl below-thin)

pub aegis128l_mac_finish_check : Wired linked code.aegis128l_mac_finish_check.Symbol.code
aegis128l_mac_finish_check = wired code.aegis128l_mac_finish_check.Symbol.code (thin.aegis128l_mac_finish_check archive refl below-thin)

pub aegis128l_mac_piece : Wired linked code.aegis128l_mac_piece.Symbol.code
aegis128l_mac_piece = wired code.aegis128l_mac_piece.Symbol.code (thin.aegis128l_mac_piece archive refl below-thin)

pub aegis128l_mac_start : Wired linked code.aegis128l_mac_start.Symbol.code
aegis128l_mac_start = wired code.aegis128l_mac_start.Symbol.code (thin.aegis128l_mac_start archive refl below-thin)

pub aegis128l_open_finish : Wired linked code.aegis128l_open_finish.Symbol.code
aegis128l_open_finish = wired code.aegis128l_open_finish.Symbol.code (thin.aegis128l_open_finish archive refl below-thin)

pub aegis128l_open_piece : Wired linked code.aegis128l_open_piece.Symbol.code
aegis128l_open_piece = wired code.aegis128l_open_piece.Symbol.code (thin.aegis128l_open_piece archive refl below-thin)

pub aegis128l_open_start : Wired linked code.aegis128l_open_start.Symbol.code
aegis128l_open_start = wired code.aegis128l_open_start.Symbol.code (thin.aegis128l_open_start archive refl below-thin)

pub aegis128l_seal_finish : Wired linked code.aegis128l_seal_finish.Symbol.code
aegis128l_seal_finish = wired code.aegis128l_seal_finish.Symbol.code (thin.aegis128l_seal_finish archive refl below-thin)

pub aegis128l_seal_piece : Wired linked code.aegis128l_seal_piece.Symbol.code
aegis128l_seal_piece = wired code.aegis128l_seal_piece.Symbol.code (thin.aegis128l_seal_piece archive refl below-thin)

pub aegis128l_seal_piece_in_place : Wired linked code.aegis128l_seal_piece_in_place.Symbol.code
aegis128l_seal_piece_in_place = wired code.aegis128l_seal_piece_in_place.Symbol.code (thin.aegis128l_seal_piece_in_place archive refl below-thin)

pub aegis128l_seal_start : Wired linked code.aegis128l_seal_start.Symbol.code
aegis128l_seal_start = wired code.aegis128l_seal_start.Symbol.code (thin.aegis128l_seal_start archive refl below-thin)

pub aegis128l_mac : Wired linked code.once.aegis128l_mac.Symbol.code
aegis128l_mac = wired code.once.aegis128l_mac.Symbol.code (thin.once_aegis128l_mac archive refl below-thin)

pub aegis128l_mac_check : Wired linked code.once.aegis128l_mac_check.Symbol.code
aegis128l_mac_check = wired code.once.aegis128l_mac_check.Symbol.code (thin.once_aegis128l_mac_check archive refl below-thin)

pub aegis128l_open : Wired linked code.once.aegis128l_open.Symbol.code
aegis128l_open = wired code.once.aegis128l_open.Symbol.code (thin.once_aegis128l_open archive refl below-thin)

pub aegis128l_open_in_place : Wired linked code.once.aegis128l_open_in_place.Symbol.code
aegis128l_open_in_place = wired code.once.aegis128l_open_in_place.Symbol.code (thin.once_aegis128l_open_in_place archive refl below-thin)

pub aegis128l_seal : Wired linked code.once.aegis128l_seal.Symbol.code
aegis128l_seal = wired code.once.aegis128l_seal.Symbol.code (thin.once_aegis128l_seal archive refl below-thin)

pub aegis128l_seal_in_place : Wired linked code.once.aegis128l_seal_in_place.Symbol.code
aegis128l_seal_in_place = wired code.once.aegis128l_seal_in_place.Symbol.code (thin.once_aegis128l_seal_in_place archive refl below-thin)

pub aegis128l_stream : Wired linked code.once.aegis128l_stream.Symbol.code
aegis128l_stream = wired code.once.aegis128l_stream.Symbol.code (thin.once_aegis128l_stream archive refl below-thin)

pub aegis128l_stream_xor : Wired linked code.once.aegis128l_stream_xor.Symbol.code
aegis128l_stream_xor = wired code.once.aegis128l_stream_xor.Symbol.code (thin.once_aegis128l_stream_xor archive refl below-thin)
