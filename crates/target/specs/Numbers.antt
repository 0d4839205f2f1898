-- The number of each refusal (1 to 13 document 01's, 14 document 02's), and the two bytes of each reply ("Events and replies as records", "Refusal numbers").
use Rattle.std.specs.Prelude.{ℕ}
use Rattle.target.specs.declared.Refusal.{Refusal}
use Rattle.target.specs.declared.Refusal.TheVariants.{Unknown, BeforeReset, Misplaced, OutOfRange, LunWorks, OthersWork, Protected, PastEnd, NotOffered, NotWorking, LineHeld, BadRecord, NotUsable, NoCopyback}
use Rattle.target.specs.declared.Reply.{Reply}
use Rattle.target.specs.declared.Reply.TheVariants as reply

abbrev pub number_of : Refusal → ℕ
number_of Unknown = 1
number_of BeforeReset = 2
number_of Misplaced = 3
number_of OutOfRange = 4
number_of LunWorks = 5
number_of OthersWork = 6
number_of Protected = 7
number_of PastEnd = 8
number_of NotOffered = 9
number_of NotWorking = 10
number_of LineHeld = 11
number_of BadRecord = 12
number_of NotUsable = 13
number_of NoCopyback = 14

-- 00 00 accepted; 01 and the byte; 02 and the refusal number
abbrev pub reply_first : Reply → ℕ
reply_first reply.Accepted = 0
reply_first (reply.Byte b) = 1
reply_first (reply.Refused r) = 2

abbrev pub reply_second : Reply → ℕ
reply_second reply.Accepted = 0
reply_second (reply.Byte b) = b
reply_second (reply.Refused r) = number_of r
