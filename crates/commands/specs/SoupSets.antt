-- The sets of soups that commands take, and why a set is refused.
use Rattle.std.specs.Prelude.{◌≡◌, ◌++◌, ℕ, List, [], ◌∷◌, Result, Ok, Err}
use Rattle.survey_core.specs.declared.job.Job.{Job}
use Rattle.ranges.specs.declared.range.Range.{Range}
use Rattle.ranges.specs.RangeLists.{FitU64, IsListText, list_text}
use Rattle.ranges.specs.RangeListFaults.{IsFirstListFault}
use Rattle.ranges.specs.Ranges.{AreSmall, Overlap}
use Rattle.pattern_commands.specs.declared.ending.complaint.Complaint.{Complaint}
use Rattle.pattern_commands.specs.declared.ending.complaint.Complaint.TheVariants.{Refused, Memory, ReadFailed, TooLong, WriteFailed}
use Rattle.requests.specs.declared.plan.Plan.{Plan}
use Rattle.pattern_commands.specs.declared.ending.refusal.Refusal.{Refusal}
use Rattle.pattern_commands.specs.declared.ending.refusal.Refusal.TheVariants.{BadList, RangeTooLarge, RangesOverlap}
use Rattle.requests.specs.declared.plan.SoupSet.{SoupSet}
use Rattle.pattern_commands.specs.Answers.{Right, given}
use Rattle.pattern_commands.specs.Inputs.{rule_named}
use Rattle.pattern_commands.specs.Profiles.{profile_named}
use Rattle.pattern_commands.specs.Soup.{seed_named}

-- the job of a plan, or the first complaint: the seed is checked first, then the profile, and then the rule
abbrev pub job_named : Plan → Result Job Complaint
job_named plan =
    given (seed_named plan.set.seed) (λ seed. given (profile_named plan.profile) (λ profile. given (rule_named plan.rule) (λ rule.
    Ok (record { seed = seed; profile = profile; rule = rule }))))

-- the range that a set's first number and count give
abbrev pub own_range : SoupSet → Range
own_range set = record { first = set.first; count = set.count }

-- the ranges of a set: those of its list, and the range of its first number and its count
pub record AreRangesOf (set : SoupSet) (ranges : List Range) : Type 0 where
  pub listed : List Range
  pub fit : FitU64 listed
  pub spelled : list_text listed ≡ set.also
  pub all : ranges ≡ listed ++ own_range set ∷ []

-- Why a set is refused: its list isn't valid, its ranges are too large for a haul, or two ranges share a number. The
-- set is checked in this order.
pub data IsRefused (set : SoupSet) (refusal : Refusal) : Type 0 where
  Bad_list : ¬ IsListText set.also → (place : ℕ) → IsFirstListFault set.also place → refusal ≡ BadList place → IsRefused set refusal
  Too_large : (ranges : List Range) → AreRangesOf set ranges → ¬ AreSmall ranges → refusal ≡ RangeTooLarge → IsRefused set refusal
  Overlapping : (ranges : List Range) → AreRangesOf set ranges → AreSmall ranges → Overlap ranges → refusal ≡ RangesOverlap → IsRefused set refusal

-- the ranges of a set are valid, and the text is right for them
pub record IsTextOf (set : SoupSet) (tells : List Range → List ℕ → Type 0) (text : List ℕ) : Type 0 where
  pub ranges : List Range
  pub named : AreRangesOf set ranges
  pub small : AreSmall ranges
  pub apart : ¬ Overlap ranges
  pub is_text : tells ranges text

-- which answer is right for a set, given what the text should say about its ranges
abbrev pub IsRightForSet : SoupSet → (List Range → List ℕ → Type 0) → Right
IsRightForSet set tells (Ok text) = IsTextOf set tells text
IsRightForSet set tells (Err (Refused refusal)) = IsRefused set refusal
IsRightForSet set tells (Err (Memory error)) = ⊥
IsRightForSet set tells (Err (ReadFailed error)) = ⊥
IsRightForSet set tells (Err TooLong) = ⊥
IsRightForSet set tells (Err (WriteFailed error)) = ⊥
