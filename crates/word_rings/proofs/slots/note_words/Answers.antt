use Rattle.std.proofs.{Common.{◌≡◌, ◌*◌, ◌<◌, ◌≤◌, ℕ, List, [], ◌++◌, length, take, drop, replicate, slice_index, ap, ◌∙◌, rules, arith}, lemmas.List.{append-nil}}
use Rattle.byteorder.specs.Endian.{little_number}
use Rattle.word_rings.{specs.Slots.{payload_width, payload_bytes, words_of, pair, bytes_of_words}, proofs.{Words.{words_are, padded_words, text_back}, NoteSlots.{slot_is, note_back, is_slot}}}
use Rattle.word_rings.proofs.slots.note_words.Goals as goal

-- the words that were read of the payload
stored : (c : goal.After-words-2-1) → c.read_u64_into.new.dst ≡ words_of payload_width (c.args.linear.now ++ drop (length c.args.linear.now) (replicate payload_bytes 0))
stored c =
    let payload = c.args.linear.now ++ drop (length c.args.linear.now) (replicate payload_bytes 0) in
    let dst = c.read_u64_into.new.dst in
    let read : (k : ℕ) → k < length dst → slice_index dst k ≡ little_number 8 (drop (8 * k) payload) = search rules in
    words_are payload_width payload dst (search rules) read

pub returns-clause-words : goal.returns-clause-words
returns-clause-words c =
    let linear = c.args.linear.now in
    slot_is c.args.n.now linear c.args.area _ _ _ _ _ _ _ c.pair.ensures.both c.pair-2.ensures.both c.pair-3.ensures.both c.pair-4.ensures.both
    (c.pair-5.ensures.both ∙ ap (λ (f : ℕ). pair c.args.n.now.place.len f) c.flags.ensures) c.from.ensures
    (stored c ∙ padded_words payload_width payload_bytes (length linear) linear)

pub returns-clause-note : goal.returns-clause-note
returns-clause-note c =
    note_back c.args.n.now _ _ _ _ _ c.from.result (c.read_u64_into.new.dst ++ []) c.pair.ensures.low c.pair.ensures.high c.pair-2.ensures.low
    c.pair-2.ensures.high c.pair-3.ensures.low
    c.pair-3.ensures.high c.pair-4.ensures.low c.pair-4.ensures.high c.pair-5.ensures.low (c.pair-5.ensures.high ∙ c.flags.ensures)

pub returns-clause-slot : goal.returns-clause-slot
returns-clause-slot c = is_slot c.args.n.now c.pair.result c.pair-2.result c.pair-3.result c.pair-4.result c.pair-5.result c.from.result
    (c.read_u64_into.new.dst ++ []) (c.pair-5.ensures.high ∙ c.flags.ensures)

pub returns-clause-bytes : goal.returns-clause-bytes
returns-clause-bytes c =
    let linear = c.args.linear.now in
    let few : length linear ≤ payload_bytes = c.requires.few in
    ap (λ (ws : List ℕ). take (length linear) (bytes_of_words ws)) (append-nil c.read_u64_into.new.dst ∙ stored c)
    ∙ text_back linear payload_bytes payload_width few (omega arith) (search rules)
