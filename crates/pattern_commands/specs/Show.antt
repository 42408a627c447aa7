-- The behaviour of `census show` (LifeWiki, "Apgcode").
use Rattle.std.specs.Prelude.{◌==◌, ◌&&◌, ◌||◌, not, ℕ, Bool, true, false, List, [], ◌∷◌, Option, Some, None, Result, Ok, Err, length, nat_lt, if◌then◌else◌}
use Rattle.std.specs.Char.{is_ascii_digit}
use Rattle.std.specs.List.{after_first, before_first, list_all, position_or_len}
use Rattle.std.specs.Result.{result_map_both}
use Rattle.plane_core.specs.declared.plane.cell.Cell.{Cell}
use Rattle.requests.specs.declared.form.PatternForm.{PatternForm}
use Rattle.code_core.specs.declared.reader.WechslerFault.{WechslerFault}
use Rattle.code_core.specs.declared.reader.WechslerFault.TheVariants as fault
use Rattle.code_core.specs.declared.reader.WechslerError.{WechslerError}
use Rattle.code_core.specs.declared.reader.WechslerError.TheVariants as error
use Rattle.code_core.specs.Reading.{wechsler_read}
use Rattle.pattern_commands.specs.declared.ending.complaint.Complaint.{Complaint}
use Rattle.pattern_commands.specs.declared.ending.complaint.Complaint.TheVariants.{Refused, Memory}
use Rattle.pattern_commands.specs.declared.ending.refusal.Refusal.TheVariants.{CodeBadByte, CodeEmpty, CodeShortRun, CodeTooLong, NotACode}
use Rattle.pattern_commands.specs.Answers.{Answer, given, only}
use Rattle.pattern_commands.specs.PatternText.{pattern_text}
use Rattle.pattern_commands.specs.Behaviours.{Behaviour, text_behaviour}

-- the byte is `_`, which separates a code's prefix from its text
abbrev pub is_separator : ℕ → Bool
is_separator b = b == 95

-- the parts of a code before and after its first `_`, or `None` if the code has no `_`
abbrev pub parted : List ℕ → Option (List ℕ × List ℕ)
parted code = if nat_lt (position_or_len is_separator code) (length code)
    then Some (before_first is_separator code, after_first is_separator code)
    else None

-- the byte is the letter of a kind: `s`, `p` or `q`, for still lifes, oscillators and spaceships
abbrev pub is_kind : ℕ → Bool
is_kind b = b == 115 || (b == 112 || b == 113)

-- the text is a number: one or more digits
abbrev pub is_number : List ℕ → Bool
is_number digits = not (length digits == 0) && list_all is_ascii_digit digits

-- the text is a valid prefix: `x`, the letter of a kind, and a number
unfoldable pub is_prefix : List ℕ → Bool
is_prefix [] = false
is_prefix (x ∷ []) = false
is_prefix (x ∷ kind ∷ number) = x == 120 && (is_kind kind && is_number number)

-- the text after a prefix, or the complaint that the prefix isn't valid
abbrev pub after_prefix : List ℕ × List ℕ → Result (List ℕ) Complaint
after_prefix (prefix, text) = if is_prefix prefix then Ok text else Err (Refused NotACode)

-- the text of a code, given the code's parts before and after its first `_`; a code without `_` is a text as a whole
abbrev pub text_or_part : List ℕ → Option (List ℕ × List ℕ) → Result (List ℕ) Complaint
text_or_part code None = Ok code
text_or_part code (Some parts) = after_prefix parts

-- the text of a code, or the complaint about its prefix
abbrev pub text_in : List ℕ → Result (List ℕ) Complaint
text_in code = text_or_part code (parted code)

-- the complaint about a text in extended Wechsler format
abbrev pub wechsler_complaint : WechslerFault → Complaint
wechsler_complaint fault.TooLong = Refused CodeTooLong
wechsler_complaint (fault.BadByte place) = Refused (CodeBadByte place)
wechsler_complaint (fault.ShortRun place) = Refused (CodeShortRun place)
wechsler_complaint fault.Empty = Refused CodeEmpty

-- the complaint if a text in extended Wechsler format can't be read: the text's fault, or out of memory
abbrev pub reader_complaint : WechslerError → Complaint
reader_complaint (error.Fault why) = wechsler_complaint why
reader_complaint (error.Memory refused) = Memory refused

-- the pattern of a text in extended Wechsler format, or the complaint about the text
abbrev pub shown : List ℕ → Result (List Cell) Complaint
shown text = result_map_both (λ cells. cells) wechsler_complaint (wechsler_read text)

-- the text of a code's pattern in the given form, or the complaint about the code
abbrev pub show_answer : PatternForm → List ℕ → Answer
show_answer form code = given (text_in code) (λ text. given (shown text) (λ cells. Ok (pattern_text form cells)))

-- the behaviour of `show`
abbrev pub show_behaviour : PatternForm → List ℕ → Behaviour
show_behaviour form code = text_behaviour false true (λ bytes. only (show_answer form code))
