-- A trace: calls that were made on a session, each of which met its contract and continued the session that the last one left. A start writes
-- its session whatever that held, so it begins another trace. All that
-- the theorems on traces speak of can be seen: what each call was lent, what it answered, and what it left in the buffers lent (with a prime).
-- Assumes nothing.
use Rattle.std.specs.Prelude.{ℕ, ◌≡◌, ◌⊎◌, ◌≢◌, List, [], ◌∷◌, ◌++◌, length}
use Rattle.promises.specs.Cipher.{Cipher, Mac}
use Rattle.promises.specs.OneShot.{on_done}
use Rattle.promises.specs.Session.{Session}
use Rattle.promises.specs.Met.{SealStartMet, OpenStartMet, MacStartMet}
use Rattle.promises.specs.Met.{SealPieceMet, SealPieceInPlaceMet, OpenPieceMet, MacPieceMet}
use Rattle.promises.specs.Met.{SealFinishMet, OpenFinishMet, MacFinishMet, MacFinishCheckMet, AbortMet}

-- a call that was made
pub data Made : Type 0 where
  seal_piece : (msg out : List ℕ) (answer : ℕ) (out' : List ℕ) → Made
  seal_piece_in_place : (buf : List ℕ) (answer : ℕ) (buf' : List ℕ) → Made
  open_piece : (ct plain : List ℕ) (answer : ℕ) (plain' : List ℕ) → Made
  mac_piece : (data' : List ℕ) (answer : ℕ) → Made
  seal_finish : (tag : List ℕ) (answer : ℕ) (tag' : List ℕ) → Made
  open_finish : (tag plain : List ℕ) (answer count : ℕ) (plain' : List ℕ) → Made
  mac_finish : (tag : List ℕ) (answer : ℕ) (tag' : List ℕ) → Made
  mac_finish_check : (tag : List ℕ) (answer : ℕ) → Made
  abort : (plain : List ℕ) (answer : ℕ) (plain' : List ℕ) → Made

-- what a call is lent: the made call, before it is made
pub data Ask : Type 0 where
  ask_seal_piece : (msg out : List ℕ) → Ask
  ask_seal_piece_in_place : (buf : List ℕ) → Ask
  ask_open_piece : (ct plain : List ℕ) → Ask
  ask_mac_piece : (data' : List ℕ) → Ask
  ask_seal_finish : (tag : List ℕ) → Ask
  ask_open_finish : (tag plain : List ℕ) → Ask
  ask_mac_finish : (tag : List ℕ) → Ask
  ask_mac_finish_check : (tag : List ℕ) → Ask
  ask_abort : (plain : List ℕ) → Ask

-- all calls so far, the last one on the right
infixl 20 ◌▸◌
pub data Calls : Type 0 where
  none : Calls
  ◌▸◌ : Calls → Made → Calls

-- ds behind cs
infixl 15 ◌then◌
abbrev pub ◌then◌ : Calls → Calls → Calls
cs then none = cs
cs then (ds ▸ d) = (cs then ds) ▸ d

-- ---- what can be seen of them

-- bytes count where the piece was accepted
abbrev pub counts : ℕ → List ℕ → List ℕ
counts answer xs = on_done answer (λ a. []) xs

-- of one call: what it was lent, its answer, the bytes that an accepted piece took, those that sealing made of them, and the buffer of an opening
-- before and after, where the call takes one
pub record Seen : Type 0 where
  pub ask : Ask
  pub answer : ℕ
  pub input : List ℕ
  pub output : List ℕ
  pub plain : List (List ℕ × List ℕ)

abbrev pub seen : Made → Seen
seen (seal_piece msg out a out') = record { ask = ask_seal_piece msg out; answer = a; input = counts a msg; output = counts a out'; plain = [] }
seen (seal_piece_in_place buf a buf') = record { ask = ask_seal_piece_in_place buf; answer = a; input = counts a buf; output = counts a buf'; plain = [] }
seen (open_piece ct plain a plain') = record { ask = ask_open_piece ct plain; answer = a; input = counts a ct; output = []; plain = (plain, plain') ∷ [] }
seen (mac_piece data' a) = record { ask = ask_mac_piece data'; answer = a; input = counts a data'; output = []; plain = [] }
seen (seal_finish tag a tag') = record { ask = ask_seal_finish tag; answer = a; input = []; output = []; plain = [] }
seen (open_finish tag plain a n plain') = record { ask = ask_open_finish tag plain; answer = a; input = []; output = []; plain = (plain, plain') ∷ [] }
seen (mac_finish tag a tag') = record { ask = ask_mac_finish tag; answer = a; input = []; output = []; plain = [] }
seen (mac_finish_check tag a) = record { ask = ask_mac_finish_check tag; answer = a; input = []; output = []; plain = [] }
seen (abort plain a plain') = record { ask = ask_abort plain; answer = a; input = []; output = []; plain = (plain, plain') ∷ [] }

abbrev pub asked : Made → Ask
asked c = (seen c).ask

abbrev pub answer_of : Made → ℕ
answer_of c = (seen c).answer

abbrev pub input : Made → List ℕ
input c = (seen c).input

abbrev pub output : Made → List ℕ
output c = (seen c).output

-- no lent byte was changed, and the count that is handed back is 0
abbrev pub LeftAlone : Made → Type 0
LeftAlone (seal_piece msg out a out') = out' ≡ out
LeftAlone (seal_piece_in_place buf a buf') = buf' ≡ buf
LeftAlone (open_piece ct plain a plain') = plain' ≡ plain
LeftAlone (mac_piece data' a) = Unit {0}
LeftAlone (seal_finish tag a tag') = tag' ≡ tag
LeftAlone (open_finish tag plain a n plain') = (plain' ≡ plain) × (n ≡ 0)
LeftAlone (mac_finish tag a tag') = tag' ≡ tag
LeftAlone (mac_finish_check tag a) = Unit {0}
LeftAlone (abort plain a plain') = plain' ≡ plain

-- the input of all accepted pieces, joined, and all that sealing made of it
abbrev pub taken : Calls → List ℕ
taken none = []
taken (cs ▸ c) = taken cs ++ input c

abbrev pub given : Calls → List ℕ
given none = []
given (cs ▸ c) = given cs ++ output c

-- a finish that answers 0 or 7, and an abort that answers 0, end a session
abbrev pub Ended : Made → Type 0
Ended (seal_piece msg out a out') = ⊥
Ended (seal_piece_in_place buf a buf') = ⊥
Ended (open_piece ct plain a plain') = ⊥
Ended (mac_piece data' a) = ⊥
Ended (seal_finish tag a tag') = a ≡ 0
Ended (open_finish tag plain a n plain') = (a ≡ 0) ⊎ (a ≡ 7)
Ended (mac_finish tag a tag') = a ≡ 0
Ended (mac_finish_check tag a) = (a ≡ 0) ⊎ (a ≡ 7)
Ended (abort plain a plain') = a ≡ 0

-- none of the calls did
abbrev pub Going : Calls → Type 0
Going none = Unit {0}
Going (cs ▸ c) = Going cs × (Ended c → ⊥)

-- one of the calls did
abbrev pub Over : Calls → Type 0
Over none = ⊥
Over (cs ▸ c) = Over cs ⊎ Ended c

-- a call that ends an opening and does not release it: a finish that answers 7, an abort
abbrev Erases : Made → Type 0
Erases (seal_piece msg out a out') = ⊥
Erases (seal_piece_in_place buf a buf') = ⊥
Erases (open_piece ct plain a plain') = ⊥
Erases (mac_piece data' a) = ⊥
Erases (seal_finish tag a tag') = ⊥
Erases (open_finish tag plain a n plain') = a ≡ 7
Erases (mac_finish tag a tag') = ⊥
Erases (mac_finish_check tag a) = ⊥
Erases (abort plain a plain') = a ≡ 0

-- one of the calls did
abbrev pub Refused : Calls → Type 0
Refused none = ⊥
Refused (cs ▸ c) = Refused cs ⊎ Erases c

-- ---- the buffer of an opening: it holds p before a call and p' behind it. A call that takes such a buffer is lent it, or another, which has
-- another length than `room`

abbrev pub Lent : ℕ → List ℕ → List ℕ → List ℕ → List ℕ → Type 0
Lent room p buf buf' p' = ((buf ≡ p) × (p' ≡ buf')) ⊎ ((length buf ≢ room) × (p' ≡ p))

abbrev pub Keeps : ℕ → List ℕ → Made → List ℕ → Type 0
Keeps room p c p' = elim (seen c).plain [ [] ↦ p' ≡ p | b ∷ bs ↦ Lent room p b.0 b.1 p' ]

-- it held p₀ before all calls, holds p behind them, and nothing else touched it
pub data OneBuffer (p₀ : List ℕ) : Calls → List ℕ → Type 0 where
  at_first : OneBuffer p₀ none p₀
  kept : {cs : Calls} {p p' : List ℕ} → OneBuffer p₀ cs p → (c : Made) → Keeps (length p₀) p c p' → OneBuffer p₀ (cs ▸ c) p'

-- ---- a buffer of another length than the one that was recorded at the start

-- each call that takes an opening's buffer was lent such a one
abbrev pub LentOther : ℕ → Made → Type 0
LentOther room c = elim (seen c).plain [ [] ↦ Unit {0} | b ∷ bs ↦ length b.0 ≢ room ]

abbrev pub AllLentOther : ℕ → Calls → Type 0
AllLentOther room none = Unit {0}
AllLentOther room (cs ▸ c) = AllLentOther room cs × LentOther room c

-- a call that takes an opening's buffer answers 10, and any other call 8
abbrev pub AnswersOther : Made → Type 0
AnswersOther c = answer_of c ≡ elim (seen c).plain [ [] ↦ 8 | b ∷ bs ↦ 10 ]

module _ {S : Type 0} (C : Cipher S) (M : Mac S) where
  -- ---- the contract of a call that was made on the session s, and left s'

  abbrev pub Met : Session S → Made → Session S → Type 0
  Met s (seal_piece msg out a out') s' = SealPieceMet C s msg out a s' out'
  Met s (seal_piece_in_place buf a buf') s' = SealPieceInPlaceMet C s buf a s' buf'
  Met s (open_piece ct plain a plain') s' = OpenPieceMet C s ct plain a s' plain'
  Met s (mac_piece data' a) s' = MacPieceMet C s data' a s'
  Met s (seal_finish tag a tag') s' = SealFinishMet C s tag a s' tag'
  Met s (open_finish tag plain a n plain') s' = OpenFinishMet C s tag plain a n s' plain'
  Met s (mac_finish tag a tag') s' = MacFinishMet C M s tag a s' tag'
  Met s (mac_finish_check tag a) s' = MacFinishCheckMet C M s tag a s'
  Met s (abort plain a plain') s' = AbortMet C s plain a s' plain'

  -- the calls, made one after the other on a session that was s₀ before them and is s behind them
  pub data Trace (s₀ : Session S) : Calls → Session S → Type 0 where
    at_start : Trace s₀ none s₀
    made : {cs : Calls} {s s' : Session S} → Trace s₀ cs s → (c : Made) → Met s c s' → Trace s₀ (cs ▸ c) s'

  -- ---- a session that was started, and the calls on it. What the sessions in between are does not matter to what is said of the calls

  -- to seal under n bytes of tag
  pub record SealSession (key nonce ad : List ℕ) (n : ℕ) (cs : Calls) : Type 0 where
    pub started : ℕ
    pub first : Session S
    pub last : Session S
    pub start_met : SealStartMet C key nonce ad n started first
    pub trace : Trace first cs last

  -- to open into one buffer, which held p₀ at the start and holds p now
  pub record OpenSession (key nonce ad : List ℕ) (n : ℕ) (p₀ : List ℕ) (cs : Calls) (p : List ℕ) : Type 0 where
    pub started : ℕ
    pub first : Session S
    pub last : Session S
    pub start_met : OpenStartMet C key nonce ad n (length p₀) started first
    pub trace : Trace first cs last
    pub buffer : OneBuffer p₀ cs p

  -- to make or to check a MAC
  pub record MacSession (key nonce : List ℕ) (n : ℕ) (cs : Calls) : Type 0 where
    pub started : ℕ
    pub first : Session S
    pub last : Session S
    pub start_met : MacStartMet C key nonce n started first
    pub trace : Trace first cs last
