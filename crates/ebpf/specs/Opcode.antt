-- The numbers of RFC 9669 that an opcode is made of, and the opcode.
use Rattle.std.specs.Prelude.{ℕ, ◌+◌, ◌*◌}

-- Section 3.3: the class, the low three bits of the opcode.
abbrev pub LDX : ℕ
LDX = 1

abbrev pub ALU : ℕ
ALU = 4

abbrev pub JMP : ℕ
JMP = 5

abbrev pub JMP32 : ℕ
JMP32 = 6

abbrev pub ALU64 : ℕ
ALU64 = 7

-- Section 4: the source bit; K takes the immediate, X the source register.
abbrev pub K : ℕ
K = 0

abbrev pub X : ℕ
X = 1

-- Section 4.1: the operation of an arithmetic instruction.
abbrev pub ADD : ℕ
ADD = 0

abbrev pub SUB : ℕ
SUB = 1

abbrev pub MUL : ℕ
MUL = 2

abbrev pub DIV : ℕ
DIV = 3

abbrev pub OR : ℕ
OR = 4

abbrev pub AND : ℕ
AND = 5

abbrev pub LSH : ℕ
LSH = 6

abbrev pub RSH : ℕ
RSH = 7

abbrev pub XOR : ℕ
XOR = 10

abbrev pub MOV : ℕ
MOV = 11

abbrev pub END : ℕ
END = 13

-- Section 4.2: a byte swap's source bit says to which order it swaps.
abbrev pub TO_BE : ℕ
TO_BE = 1

-- Section 4.3: the operation of a jump.
abbrev pub JA : ℕ
JA = 0

abbrev pub JEQ : ℕ
JEQ = 1

abbrev pub JGT : ℕ
JGT = 2

abbrev pub JGE : ℕ
JGE = 3

abbrev pub JSET : ℕ
JSET = 4

abbrev pub JNE : ℕ
JNE = 5

abbrev pub EXIT : ℕ
EXIT = 9

abbrev pub JLT : ℕ
JLT = 10

abbrev pub JLE : ℕ
JLE = 11

-- Section 5: the mode of a regular load, and its size (the RFC writes W, H, B).
abbrev pub MEM : ℕ
MEM = 3

abbrev pub WORD : ℕ
WORD = 0

abbrev pub HALF : ℕ
HALF = 1

abbrev pub BYTE : ℕ
BYTE = 2

-- Section 4, arithmetic and jumps: the operation in four bits, the source bit, the class in three bits.
abbrev pub opcode : ℕ → ℕ → ℕ → ℕ
opcode operation source class = operation * 16 + source * 8 + class

-- Section 5, loads: the mode in three bits, the size in two, the class in three.
abbrev pub load_opcode : ℕ → ℕ → ℕ → ℕ
load_opcode mode size class = mode * 32 + size * 8 + class
