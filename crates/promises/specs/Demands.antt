-- What the firm asked for, as records over any cipher. Above each field stands the sentence that it says, in quotes where it is the firm's own.
-- A field speaks of calls that met their contracts (Met.antt; AnyCall.antt has any of the twenty) and of sessions, which are traces of such calls
-- (Trace.antt), and only of what can be seen: what a call was lent, what it answered, and what it left. Demand 2's runs against the Rust
-- are no part of it.
-- Assumes nothing.
use Rattle.std.specs.Prelude.{ℕ, ◌≤◌, ◌<◌, ◌≡◌, ◌⊎◌, ◌≢◌, ◌↔◌, List, [], ◌++◌, length, take, get_or, replicate}
use Rattle.machine.specs.Bytes.{zeros, xors, Bytes}
use Rattle.machine.specs.Draft.{draft_absorb, draft_encrypt, draft_decrypt, draft_decrypt_state}
use Rattle.machine.specs.Kinds.{silent}
use Rattle.answers.specs.Answers.{limit, FirstApplies}
use Rattle.promises.specs.Cipher.{Cipher, Mac}
use Rattle.promises.specs.Allowed.{Allowed}
use Rattle.promises.specs.Texts.{onto, ciphertext, plaintext}
use Rattle.promises.specs.Session.{Session, ended, sealing, opening, macing}
use Rattle.promises.specs.Record.{RecordHolds}
use Rattle.promises.specs.Met.{SealMet, SealInPlaceMet, OpenMet, OpenInPlaceMet, StreamMet, StreamXorMet, MacMet, MacCheckMet, OpenStartMet}
use Rattle.promises.specs.AnyCall.{AnyCall, Leaves, CallMet, rungs_of, untouched, asks}
use Rattle.promises.specs.Trace.{Made, open_piece, seal_finish, open_finish, mac_finish, mac_finish_check, abort, Ask, answer_of, LeftAlone, Met, Trace}
use Rattle.promises.specs.Trace.{Calls, ◌▸◌, ◌then◌, taken, given, Ended, Going, Over, Refused, AllLentOther, AnswersOther, SealSession, OpenSession, MacSession}
use Rattle.promises.specs.Interleaved.{Interleaving, calls_on, Interleaved}
use Rattle.promises.specs.Calls.{SealCall, OpenCall}

-- ---- demand 1

-- ps are the first of the calls cs
pub data FirstOf (ps : Calls) : Calls → Type 0 where
  all_of : FirstOf ps ps
  and_more : {cs : Calls} (c : Made) → FirstOf ps cs → FirstOf ps (cs ▸ c)

pub record Demand1 {S : Type 0} (C : Cipher S) (M : Mac S) : Type 0 where
  -- "Any bytes, lengths and order of calls get an answer. No entry point asks its caller to have checked." Any call, whatever it is lent and
  -- whatever its session holds, has an outcome that meets its contract, and only one
  pub answered : (c : AnyCall S) → (a : ℕ) × (l : Leaves c) × CallMet C M c a l
  pub one_answer : (c : AnyCall S) (a a₂ : ℕ) (l l₂ : Leaves c) → CallMet C M c a l → CallMet C M c a₂ l₂ → (a ≡ a₂) × (l ≡ l₂)
  pub any_order : (s : Session S) (qs : List Ask) → (cs : Calls) × (s' : Session S) × (asks cs ≡ qs) × Trace C M s cs s'
  -- calls on a session that others left, or on a copy of it, are calls behind those
  pub any_copy : {s₀ s s' : Session S} {cs ds : Calls} → Trace C M s₀ cs s → Trace C M s ds s' → Trace C M s₀ (cs then ds) s'
  -- calls on several sessions may be interleaved: those on each one are a trace of it
  pub any_sessions : {first last : ℕ → Session S} {ks : Interleaving} → Interleaved C M first ks last → (j : ℕ) → Trace C M (first j) (calls_on j ks) (last j)
  -- "Document 01 fixes each refusal": the first that applies, in its order, is the answer
  pub first_applies : (c : AnyCall S) (a : ℕ) (l : Leaves c) → CallMet C M c a l → (k : ℕ) → (a ≡ k) ↔ FirstApplies (rungs_of C M c) k
  -- "and what every lent buffer and session holds afterwards": a refusal, but 7, leaves all as it was; a start that is refused, a finish with 0 or
  -- 7 and an abort leave a session that is over: zeros and the mark; behind an end every call answers 8, and nothing changes
  pub refused : (c : AnyCall S) (a : ℕ) (l : Leaves c) → CallMet C M c a l → a ≢ 0 → a ≢ 7 → l ≡ untouched C M c
  pub ends : (s s' : Session S) (c : Made) → Met C M s c s' → Ended c → s' ≡ ended C
  pub over : {s₀ s : Session S} {cs : Calls} {c : Made} → Trace C M s₀ (cs ▸ c) s → Over cs → (answer_of c ≡ 8) × LeftAlone c
  -- and while a session goes on its record holds the counts and the bytes that 01 names
  pub sealing_record : {cs : Calls} {key nonce ad : List ℕ} {n : ℕ} (t : SealSession C M key nonce ad n cs) → t.started ≡ 0 → Going cs
      → RecordHolds C.machine sealing (length ad) n 0 0 (taken cs) t.last
  pub opening_record : {cs : Calls} {key nonce ad p₀ p : List ℕ} {n : ℕ} (t : OpenSession C M key nonce ad n p₀ cs p) → t.started ≡ 0 → Going cs
      → RecordHolds C.machine opening (length ad) n (length p₀) (length (taken cs)) (plaintext C key nonce ad (taken cs)) t.last
  pub mac_record : {cs : Calls} {key nonce : List ℕ} {n : ℕ} (t : MacSession C M key nonce n cs) → t.started ≡ 0 → Going cs
      → RecordHolds (silent C.machine) macing 0 n 0 0 (taken cs) t.last
  -- a session that was started and that no call has ended is aborted with 0; only an opening's buffer is touched then
  pub abort_sealing : {key nonce ad : List ℕ} {n : ℕ} {cs : Calls} {b b' : List ℕ} {a : ℕ} (t : SealSession C M key nonce ad n (cs ▸ abort b a b'))
      → t.started ≡ 0 → Going cs → (a ≡ 0) × (b' ≡ b)
  pub abort_mac : {key nonce : List ℕ} {n : ℕ} {cs : Calls} {b b' : List ℕ} {a : ℕ} (t : MacSession C M key nonce n (cs ▸ abort b a b'))
      → t.started ≡ 0 → Going cs → (a ≡ 0) × (b' ≡ b)
  pub abort_opening : {key nonce ad p₀ p : List ℕ} {n : ℕ} {cs : Calls} {b b' : List ℕ} {a : ℕ} (t : OpenSession C M key nonce ad n p₀ (cs ▸ abort b a b') p)
      → t.started ≡ 0 → Going cs → length b ≡ length p₀ → a ≡ 0
  -- an opening that was started for another length than its buffer's opens nothing: each call that takes the buffer answers 10
  pub other_room : (key nonce ad : List ℕ) (n room : ℕ) (first : Session S) → OpenStartMet C key nonce ad n room 0 first
      → {cs : Calls} {c : Made} {s : Session S} → Trace C M first (cs ▸ c) s → AllLentOther room (cs ▸ c) → AnswersOther c × LeftAlone c
  -- "After a wrong tag every byte that opening wrote is overwritten with one fixed value,": 0xaa for each byte of the ciphertext, and no other byte
  -- is changed; in place the whole buffer
  pub wrong_tag : (key nonce ad ct tag out : List ℕ) (r : ℕ) (out' : List ℕ) → OpenMet C key nonce ad ct tag out r out' → r ≡ 7
      → out' ≡ onto (replicate (length ct) 0xaa) out
  pub wrong_tag_in_place : (key nonce ad buf tag : List ℕ) (r : ℕ) (buf' : List ℕ) → OpenInPlaceMet C key nonce ad buf tag r buf' → r ≡ 7
      → buf' ≡ replicate (length buf) 0xaa
  -- "for a session if each call continues the session last handed back and is lent the same buffer." After a finish with 7 or an abort, and
  -- whatever is called later, each byte that at any time was not what it was at the start is 0, and every other is as it was
  pub session_wrong_tag : {key nonce ad p₀ p : List ℕ} {n : ℕ} {cs : Calls} → OpenSession C M key nonce ad n p₀ cs p → Refused cs
      → {ps : Calls} → FirstOf ps cs → {q : List ℕ} → OpenSession C M key nonce ad n p₀ ps q → (i : ℕ) → get_or q i 0 ≢ get_or p₀ i 0 → get_or p i 0 ≡ 0
  pub session_other_bytes : {key nonce ad p₀ p : List ℕ} {n : ℕ} {cs : Calls} → OpenSession C M key nonce ad n p₀ cs p → Refused cs
      → (i : ℕ) → (get_or p i 0 ≡ 0) ⊎ (get_or p i 0 ≡ get_or p₀ i 0)
  -- the first bytes, as many as were taken, and no other
  pub session_erased : {key nonce ad p₀ p : List ℕ} {n : ℕ} {cs : Calls} → OpenSession C M key nonce ad n p₀ cs p → Refused cs
      → (length (taken cs) ≤ length p₀) × (p ≡ onto (zeros (length (taken cs))) p₀)

-- ---- demand 2: "Equal to the Rust on every input in 01's domain, by runs against it" (compare/), "and proved equal to a definition written from
-- the CFRG AEGIS draft and FIPS 197, for the MAC as 01 says."

pub record Demand2 {S : Type 0} (C : Cipher S) (M : Mac S) : Type 0 where
  -- seal is the draft's Encrypt: AD is absorbed into the state of key and nonce, the message is encrypted, and the tag is finalized
  pub seal_is_encrypt : (key nonce ad msg out tag : List ℕ) (r : ℕ) (out' tag' : List ℕ) → SealMet C key nonce ad msg out tag r out' tag' → r ≡ 0
      → let state = draft_absorb C.machine (C.init key nonce) ad in
      (out' ≡ onto (draft_encrypt C.machine state msg) out)
      × (tag' ≡ C.tag (draft_absorb C.machine state msg) (length ad) (length msg) (length tag))
  -- open is its Decrypt: the message, and the tag that is due
  pub open_is_decrypt : (key nonce ad ct tag out : List ℕ) (r : ℕ) (out' : List ℕ) → OpenMet C key nonce ad ct tag out r out' → r ≡ 0
      → let state = draft_absorb C.machine (C.init key nonce) ad in
      (out' ≡ onto (draft_decrypt C.machine state ct) out)
      × (tag ≡ C.tag (draft_decrypt_state C.machine state ct) (length ad) (length ct) (length tag))
  -- stream is its Stream: what zeros are encrypted to, with no associated data; stream xor is the message xored with it, and undoes itself
  pub stream_is_stream : (key nonce out : List ℕ) (r : ℕ) (out' : List ℕ) → StreamMet C key nonce out r out' → r ≡ 0
      → out' ≡ draft_encrypt C.machine (C.init key nonce) (zeros (length out))
  pub stream_xor_is_xor : (key nonce buf : List ℕ) (r : ℕ) (buf' : List ℕ) → StreamXorMet C key nonce buf r buf' → r ≡ 0
      → buf' ≡ xors buf (draft_encrypt C.machine (C.init key nonce) (zeros (length buf)))
  pub stream_xor_back : (key nonce buf : List ℕ) (r : ℕ) (buf' : List ℕ) (r₂ : ℕ) (buf₂ : List ℕ)
      → StreamXorMet C key nonce buf r buf' → r ≡ 0 → StreamXorMet C key nonce buf' r₂ buf₂ → (r₂ ≡ 0) × (buf₂ ≡ buf)
  -- the MAC is 01's: the data is absorbed as AD is, the lengths are the data's and the tag's; for no data the state is what the MAC makes of it
  pub mac_is_01s : (key nonce data' tag : List ℕ) (r : ℕ) (tag' : List ℕ) → MacMet C M key nonce data' tag r tag' → r ≡ 0 → 0 < length data'
      → tag' ≡ C.tag (draft_absorb C.machine (C.init key nonce) data') (length data') (length tag) (length tag)
  pub mac_of_nothing : (key nonce tag : List ℕ) (r : ℕ) (tag' : List ℕ) → MacMet C M key nonce [] tag r tag' → r ≡ 0
      → tag' ≡ C.tag (M.empty (C.init key nonce)) 0 (length tag) (length tag)
  -- with the right sizes and room they answer 0, so that none of this is idle
  pub sealed : (key nonce ad : List ℕ) (n : ℕ) → Allowed C key nonce ad n → (s : SealCall C key nonce ad n) → s.answer ≡ 0
  pub streamed : (key nonce : List ℕ) → length key ≡ C.size → length nonce ≡ C.size → (buf : List ℕ) (r : ℕ) (buf' : List ℕ)
      → (StreamMet C key nonce buf r buf' → r ≡ 0) × (StreamXorMet C key nonce buf r buf' → r ≡ 0)
  pub maced : (key nonce : List ℕ) (n : ℕ) → Allowed C key nonce [] n → (data' tag : List ℕ) (r : ℕ) (tag' : List ℕ) → MacMet C M key nonce data' tag r tag'
      → length tag ≡ n → length data' ≤ limit → r ≡ 0

-- ---- demand 3: "Fix key, nonce, tag size and associated data, with that data and the message at most 2^61-1 bytes each and room lent for
-- the output."

-- ct and tag are the sealed form of msg: what every call of seal makes of it
pub record SealedAs {S : Type 0} (C : Cipher S) (key nonce ad : List ℕ) (n : ℕ) (msg ct tag : List ℕ) : Type 0 where
  pub within : length msg ≤ limit
  pub as_long : length ct ≡ length msg
  pub own_size : length tag ≡ n
  pub every_call : (s : SealCall C key nonce ad n) → s.msg ≡ msg → (s.answer ≡ 0) × (s.out' ≡ onto ct s.out) × (s.tag' ≡ tag)

-- some message's
abbrev pub Sealed : {S : Type 0} → Cipher S → (key nonce ad : List ℕ) (n : ℕ) (ct tag : List ℕ) → Type 0
Sealed C key nonce ad n ct tag = (msg : List ℕ) × SealedAs C key nonce ad n msg ct tag

pub record Demand3 {S : Type 0} (C : Cipher S) (M : Mac S) (key nonce ad : List ℕ) (n : ℕ) : Type 0 where
  -- "Every message has one sealed form,
  pub has_form : (msg : List ℕ) → length msg ≤ limit → (ct : List ℕ) × (tag : List ℕ) × SealedAs C key nonce ad n msg ct tag
  pub one_form : (msg ct tag ct₂ tag₂ : List ℕ) → SealedAs C key nonce ad n msg ct tag → SealedAs C key nonce ad n msg ct₂ tag₂ → (ct ≡ ct₂) × (tag ≡ tag₂)
  -- and different messages have different ciphertexts.
  pub differ : (msg ct tag msg₂ ct₂ tag₂ : List ℕ) → SealedAs C key nonce ad n msg ct tag → SealedAs C key nonce ad n msg₂ ct₂ tag₂
      → msg ≢ msg₂ → ct ≢ ct₂
  -- Opening accepts a ciphertext and tag exactly when they are some message's sealed form,
  pub accepts : (o : OpenCall C key nonce ad n) → (o.answer ≡ 0) ↔ Sealed C key nonce ad n o.ct o.tag
  -- and yields that message."
  pub yields : (o : OpenCall C key nonce ad n) (msg : List ℕ) → SealedAs C key nonce ad n msg o.ct o.tag → (o.answer ≡ 0) × (o.out' ≡ onto msg o.out)
  -- All others it refuses with 7,
  pub refuses : (o : OpenCall C key nonce ad n) → (o.answer ≡ 7) ↔ (Sealed C key nonce ad n o.ct o.tag → ⊥)
  pub verdict : (o : OpenCall C key nonce ad n) → (o.answer ≡ 0) ⊎ (o.answer ≡ 7)
  -- and of a ciphertext one tag is accepted
  pub one_tag : (o q : OpenCall C key nonce ad n) → o.answer ≡ 0 → q.answer ≡ 0 → o.ct ≡ q.ct → o.tag ≡ q.tag
  -- a call in place is a call whose two buffers are one, so that all of this holds of it: the buffer becomes the ciphertext, or the message
  pub seal_in_place : (buf tag : List ℕ) (r : ℕ) (buf' tag' : List ℕ) → SealInPlaceMet C key nonce ad buf tag r buf' tag' → length tag ≡ n
      → length buf ≤ limit → (r ≡ 0) × SealedAs C key nonce ad n buf buf' tag'
  pub open_in_place : (buf tag : List ℕ) (r : ℕ) (buf' : List ℕ) → OpenInPlaceMet C key nonce ad buf tag r buf' → length tag ≡ n → length buf ≤ limit
      → ((r ≡ 0) ↔ Sealed C key nonce ad n buf tag) × ((msg : List ℕ) → SealedAs C key nonce ad n msg buf tag → buf' ≡ msg)
  -- a message is a list of bytes: of bytes the sealed form is bytes, and bytes that are accepted are some bytes' sealed form
  pub bytes_sealed : Bytes key → Bytes nonce → Bytes ad → (msg ct tag : List ℕ) → SealedAs C key nonce ad n msg ct tag → Bytes msg → Bytes ct × Bytes tag
  pub bytes_opened : Bytes key → Bytes nonce → Bytes ad → (msg ct tag : List ℕ) → SealedAs C key nonce ad n msg ct tag → Bytes ct → Bytes msg
  -- "Cutting changes none of this: if a session starts from these, each call continues the session last handed back, and an opener is lent one
  -- buffer untouched between calls, then after every accepted piece the output so far is what the definition gives for the bytes so far,
  pub seal_so_far : {cs : Calls} → SealSession C M key nonce ad n cs → given cs ≡ ciphertext C key nonce ad (taken cs)
  pub open_so_far : {cs : Calls} {p₀ p ct b b' : List ℕ} {a : ℕ} → OpenSession C M key nonce ad n p₀ (cs ▸ open_piece ct b a b') p → a ≡ 0
      → b' ≡ onto (plaintext C key nonce ad (taken cs ++ ct)) p₀
  -- and finishing a live session with its own tag size gives the one-shot's tag
  pub seal_finished : {cs : Calls} {tag tag' : List ℕ} {a : ℕ} → SealSession C M key nonce ad n (cs ▸ seal_finish tag a tag') → Going cs → length tag ≡ n
      → (a ≡ 0) × SealedAs C key nonce ad n (taken cs) (given cs) tag'
  pub mac_finished : {cs : Calls} {tag tag' : List ℕ} {a : ℕ} → MacSession C M key nonce n (cs ▸ mac_finish tag a tag') → Going cs → length tag ≡ n
      → (a ≡ 0) × ((tag_buf : List ℕ) (r : ℕ) (tag_buf' : List ℕ) → MacMet C M key nonce (taken cs) tag_buf r tag_buf' → length tag_buf ≡ n → (r ≡ 0) × (tag_buf' ≡ tag'))
  -- or verdict on the joined bytes."
  pub open_finished : {cs : Calls} {p₀ p tag b b' : List ℕ} {a k : ℕ} → OpenSession C M key nonce ad n p₀ (cs ▸ open_finish tag b a k b') p → Going cs
      → length b ≡ length p₀ → (o : OpenCall C key nonce ad n) → o.ct ≡ taken cs → o.tag ≡ tag
      → (a ≡ o.answer) × (a ≡ 0 → (k ≡ length (taken cs)) × (take k b' ≡ take k o.out'))
  pub open_finish_accepts : {cs : Calls} {p₀ p tag b b' : List ℕ} {a k : ℕ} → OpenSession C M key nonce ad n p₀ (cs ▸ open_finish tag b a k b') p → Going cs
      → length tag ≡ n → length b ≡ length p₀ → (a ≡ 0) ↔ Sealed C key nonce ad n (taken cs) tag
  pub open_finish_yields : {cs : Calls} {p₀ p tag b b' : List ℕ} {a k : ℕ} → OpenSession C M key nonce ad n p₀ (cs ▸ open_finish tag b a k b') p → a ≡ 0
      → (msg : List ℕ) × SealedAs C key nonce ad n msg (taken cs) tag × (k ≡ length msg) × (b' ≡ onto msg p₀)
  pub mac_check : {cs : Calls} {tag : List ℕ} {a : ℕ} → MacSession C M key nonce n (cs ▸ mac_finish_check tag a) → Going cs → length tag ≡ n
      → (r : ℕ) → MacCheckMet C M key nonce (taken cs) tag r → a ≡ r
  -- of each size the check accepts one tag, the one that the MAC gives
  pub mac_accepts : (data' tag_buf : List ℕ) (r : ℕ) (tag_buf' : List ℕ) → MacMet C M key nonce data' tag_buf r tag_buf' → length tag_buf ≡ n → length data' ≤ limit
      → (tag : List ℕ) (v : ℕ) → MacCheckMet C M key nonce data' tag v → length tag ≡ n → ((v ≡ 0) ↔ (tag ≡ tag_buf')) × ((v ≡ 0) ⊎ (v ≡ 7))
  -- So two sessions that took the same bytes gave the same, however these were cut, and different bytes different ciphertexts;
  pub recut_seals : {cs ds : Calls} {tag tag' tag₂ tag₂' : List ℕ} {a a₂ : ℕ}
      → SealSession C M key nonce ad n (cs ▸ seal_finish tag a tag') → a ≡ 0 → SealSession C M key nonce ad n (ds ▸ seal_finish tag₂ a₂ tag₂') → a₂ ≡ 0
      → taken cs ≡ taken ds → (given cs ≡ given ds) × (tag' ≡ tag₂')
  pub recut_differ : {cs ds : Calls} → SealSession C M key nonce ad n cs → SealSession C M key nonce ad n ds → taken cs ≢ taken ds → given cs ≢ given ds
  -- what one session sealed opens in another under any other cutting, and by the one-shot
  pub recut_opens : {cs ds : Calls} {tag₁ tag₁' : List ℕ} {a₁ : ℕ} {p₀ p tag b b' : List ℕ} {a k : ℕ}
      → SealSession C M key nonce ad n (cs ▸ seal_finish tag₁ a₁ tag₁') → a₁ ≡ 0
      → OpenSession C M key nonce ad n p₀ (ds ▸ open_finish tag b a k b') p → Going ds → length b ≡ length p₀
      → taken ds ≡ given cs → tag ≡ tag₁'
      → (a ≡ 0) × (k ≡ length (taken cs)) × (b' ≡ onto (taken cs) p₀)
  pub joined_opens : {cs : Calls} {tag tag' : List ℕ} {a : ℕ} → SealSession C M key nonce ad n (cs ▸ seal_finish tag a tag') → a ≡ 0
      → (o : OpenCall C key nonce ad n) → o.ct ≡ given cs → o.tag ≡ tag' → (o.answer ≡ 0) × (o.out' ≡ onto (taken cs) o.out)
