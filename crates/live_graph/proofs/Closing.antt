-- What the lock learns of the mixer's readings at the end of a run.
use Rattle.std.proofs.Common.{◌≡◌, ℕ, ◌<◌, ◌≤◌, Bool, true, List, [], ◌∷◌, length, map, ◌∙◌, ap, subst}
use Rattle.std.specs.Prelude.{slice_index}
use Rattle.atomic_table.specs.Table.{Me}
use Rattle.scene_model.specs.Opening.{opening}
use Rattle.mix_model.specs.Board.{board}
use Rattle.mix_model.specs.Histories.{AreReadingsOf, word_after}
use Rattle.mix_model.specs.Readings.{AreLawfulReadings, IsLawfulReading, ReadingData, Stood}
use Rattle.live_board.specs.declared.view.Entry.{Entry}
use Rattle.live_board.specs.declared.view.Reading.{Reading}
use Rattle.live_board.specs.declared.view.View.{View}
use Rattle.live_board.specs.Rule.{AreLawful, dial_after, entry_data, reading_data}
use Rattle.live_board.specs.Steps.{Learns, with_mix}
use Rattle.live_graph.specs.Parts.{IsDesk}
use Rattle.live_graph.specs.Runs.{RunData}
use Rattle.live_graph.specs.declared.stage.LiveStage.{LiveStage}

-- readings are lawful by what stood at each place, after each number of entries that there is
lawful_by : (f g : ℕ → ℕ → ℕ) (entries places least : ℕ) (rs : List ReadingData) → ((place count : ℕ) → count ≤ entries → f place count ≡ g place count) → AreLawfulReadings f entries places least rs → AreLawfulReadings g entries places least rs
lawful_by f g entries places least [] same w = tt
lawful_by f g entries places least (r ∷ rs) same w = (w.0, lawful, lawful_by f g entries places r.until rs same w.2)
  where
    stood : (place : ℕ) → place < length r.words → Stood (g place) r.from r.until entries (slice_index r.words place)
    stood place low =
        let s = w.1.words_are place low in
        record { count = s.count; within = s.within; word_is = s.word_is ∙ same place s.count s.within.within }

    lawful : IsLawfulReading g entries places r
    lawful = record { window = w.1.window; length_is = w.1.length_is; words_are = stood }

pub readings_are : (r : RunData) (w : LiveStage) (made : List ℕ) (journal : List Entry) (me : Me Bool View) (mixing : View) (readings : List Reading) → IsDesk r w made journal → me ≡ (with_mix w.seat.me.0 mixing, w.seat.me.1) → mixing.mixes ≡ true → mixing.mixing.readings ≡ readings → Learns me → AreReadingsOf r.scene (map entry_data journal) (map reading_data readings)
readings_are r w made journal me mixing readings d is mixes read learns =
    let es = map entry_data journal in
    let dials = board (opening r.scene) in
    let history = w.seat.me.0.lock.history in
    let learnt : AreLawful me.0.lock.opening me.0.lock.history 0 me.0.mixing.readings = learns.readings (ap (λ m. m.0.mixes) is ∙ mixes) in
    let by_desk : AreLawful dials history 0 readings =
    subst (λ (ds : List ℕ). AreLawful ds history 0 readings) (ap (λ m. m.0.lock.opening) is ∙ d.opening_is)
    (subst (λ (h : List (ℕ × ℕ)). AreLawful me.0.lock.opening h 0 readings) (ap (λ m. m.0.lock.history) is)
    (subst (AreLawful me.0.lock.opening me.0.lock.history 0) (ap (λ m. m.0.mixing.readings) is ∙ read) learnt)) in
    subst (λ (entries : ℕ). AreLawfulReadings (word_after r.scene es) entries (length dials) 0 (map reading_data readings)) d.history_is.count_is
    (lawful_by (dial_after dials history) (word_after r.scene es) (length history) (length dials) 0 (map reading_data readings)
    (λ place count within. ap (λ (words : List ℕ). slice_index words place) (d.history_is.words_are count within)) by_desk)
