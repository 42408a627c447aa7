use Rattle.std.proofs.Common.{◌≡◌, ◌+◌, ◌-◌, ◌*◌, ◌/◌, ◌%◌, ◌^◌, ◌<◌, ℕ, Fits, ap, arith, bit_or, slice_index, rules, w64, length, length-set, ◌∙◌}
use Rattle.std.specs.Int.{bit_at}
use Rattle.std.proofs.lemmas.List.{length-replicate}
use Rattle.plane_core.proofs.lemmas.windows.ShiftLemmas.{joined_left, joined_right}
use Rattle.plane_core.proofs.lemmas.engine.WindowIoLemmas.{column_low, four_rows_read, read_word, rows_inside, rows_more}
use Rattle.plane_core.proofs.engine.window_io.read_rows.Goals as goal

pub loop-r-init : goal.loop-r-init
loop-r-init g c = record {
  long = length-replicate _ _;
  most = omega arith;
  inside = rows_inside c.args.at c.args.words.now c.args.x c.args.y g.row.R c.requires.long c.requires.word_columns c.requires.rows;
  read = λ r i low inside. absurd (omega (arith, low));
}

pub loop-r-preserved : goal.loop-r-preserved
loop-r-preserved g c =
    let words = c.args.words.now in
    let r = c.loop-r.r in
    let four = c.joined-four.result in
    record {
      long = omega (arith, c.loop-r.invariant.long);
      most = omega (arith, c.loop-r-test.true);
      inside = c.loop-r.invariant.inside;
      read = four_rows_read c.args.at words c.args.x c.args.y r c.loop-r.rows c.set_words.new.words c.loop-r.invariant.read c.set_words.ensures.others
          (λ j i low inside. ap (λ (w : ℕ). bit_at w i) (c.set_words.ensures.at j low)
          ∙ read_word c.args.at words c.args.x c.args.y (r + j) i (slice_index four j) inside
          (λ first. c.joined-four.ensures.first j i low first
          ∙ ap (λ (w : ℕ). bit_at w (i + c.args.x % 64)) (c.four_words.ensures j low ∙ ap (slice_index words) (omega arith)))
          (λ second. c.joined-four.ensures.second j i low inside second
          ∙ ap (λ (w : ℕ). bit_at w (i + c.args.x % 64 - 64)) (c.four_words-in-loop-r.ensures j low ∙ ap (slice_index words) (omega arith))));
    }

pub loop-r-2-preserved : goal.loop-r-2-preserved
loop-r-2-preserved g c =
    let rows = c.loop-r-2.rows in
    let r = c.loop-r-2.r in
    let long : length rows ≡ g.row.R = c.loop-r-2.invariant.long in
    let words = c.args.words.now in
    let shift = c.args.x % 64 in
    let low : shift < 64 = column_low c.args.x in
    let first = slice_index words (c.args.x / 64 * c.args.at.rows + c.args.y + r) in
    let second = slice_index words (c.args.x / 64 * c.args.at.rows + c.args.y + c.args.at.rows + r) in
    let fits : Fits w64 first = search rules in
    let word = bit_or (first / 2 ^ shift) (second * 2 % 2 ^ 64 * 2 ^ (63 - shift) % 2 ^ 64) in
    record {
      long = length-set rows r word ∙ long;
      most = omega (arith, c.loop-r-2-test.true);
      inside = c.loop-r-2.invariant.inside;
      read = rows_more c.args.at words c.args.x c.args.y r word rows (omega arith) c.loop-r-2.invariant.read
          (λ i inside. read_word c.args.at words c.args.x c.args.y r i word inside
          (joined_left first second shift i low) (joined_right first second shift i fits low inside));
    }
