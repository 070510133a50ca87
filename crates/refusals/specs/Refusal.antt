-- The papers' numbers of the refusals, and answers in the papers' words.
use Rattle.std.specs.Prelude.{ℕ, Result, Ok, Err}
use Rattle.refusals.specs.declared.Reason.{Reason}
use Rattle.refusals.specs.declared.Reason.TheVariants.{LinkOrMode, SheetLength, WrongByte, NotOneTree, FarOffset, BigShift, ShortOutput, ShortWork, DeepTree, FarJump, NoEthertype, NoPorts, NoEtherHost, NoEtherMulticast, NoMpls, NoDirection, ComparedWithLoad, DivisionByZero, Modulo, UnknownMagic, OtherLinkType, FileEnds, LongRecord, ManyTokens}
use Rattle.refusals.specs.declared.Refusal.{Refusal}

-- The number of each refusal in document 01 (1 to 19) and in document 02 (40 to 43, 50).
abbrev pub number_of : Reason → ℕ
number_of LinkOrMode = 1
number_of SheetLength = 2
number_of WrongByte = 3
number_of NotOneTree = 4
number_of FarOffset = 5
number_of BigShift = 6
number_of ShortOutput = 7
number_of ShortWork = 8
number_of DeepTree = 9
number_of FarJump = 10
number_of NoEthertype = 11
number_of NoPorts = 12
number_of NoEtherHost = 13
number_of NoEtherMulticast = 14
number_of NoMpls = 15
number_of NoDirection = 16
number_of ComparedWithLoad = 17
number_of DivisionByZero = 18
number_of Modulo = 19
number_of UnknownMagic = 40
number_of OtherLinkType = 41
number_of FileEnds = 42
number_of LongRecord = 43
number_of ManyTokens = 50

-- An answer in the papers' words: a refusal's number and place, or what is given where nothing is refused.
pub data Answer (A : Type 0) : Type 0 where
  Refused : ℕ → ℕ → Answer A
  Given : A → Answer A

-- What a function's result says in these words.
abbrev pub told : {A : Type 0} → Result A Refusal → Answer A
told (Ok x) = Given x
told (Err refusal) = Refused (number_of refusal.reason) refusal.place

-- The number of the refusal that is earned; 0 is none.
abbrev pub earned : {A : Type 0} → Result A Reason → ℕ
earned (Ok x) = 0
earned (Err reason) = number_of reason
