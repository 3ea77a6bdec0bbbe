-- Worked values of the definitions: RFC 8259 and RFC 4180 on lines that commands write.
use Rattle.std.proofs.Common.{◌≡◌, refl, Some, None, codes, []}
use Rattle.wl_lines.specs.declared.formats.Format.TheVariants.{Json, Csv}
use Rattle.wl_formats.specs.declared.tables.Subject.TheVariants as subject
use Rattle.wl_formats.specs.Formats.{formatted}

-- a line of `check`, as both formats have it
pair_as_json : formatted Json subject.Check (codes "pair 0 1 delay 325 back 400\n")
    ≡ Some (codes "{\"command\":\"check\",\"records\":[\n{\"kind\":\"pair\",\"node\":0,\"other_node\":1,\"delay_ticks\":325,\"back_ticks\":400}\n]}\n")
pair_as_json = refl

pair_as_csv : formatted Csv subject.Check (codes "pair 0 1 delay 325 back 400\n")
    ≡ Some (codes "kind,node,name,bit_quanta,sample_quanta,jump_quanta,tolerance_ppm,other_node,delay_ticks,back_ticks\r\npair,0,,,,,,1,325,400\r\n")
pair_as_csv = refl

-- two records, and a last line that has no newline
two_records : formatted Json subject.Traffic (codes "bus load 5.00 % gap 7 us\nverdict ends too early")
    ≡ Some (codes "{\"command\":\"traffic\",\"records\":[\n{\"kind\":\"bus\",\"load_percent\":5.00,\"gap_us\":7},\n{\"kind\":\"verdict\",\"verdict\":\"ends too early\"}\n]}\n")
two_records = refl

-- why a run of `traffic` didn't work: a record of its own for each node or message
causes : formatted Json subject.Traffic (codes "full for the last 9936 us\nstarved pump 1a0 waits 558 us allowed 50 us\ndeaf panel 3 of 12 frames\n")
    ≡ Some (codes "{\"command\":\"traffic\",\"records\":[\n{\"kind\":\"full\",\"full_us\":9936},\n{\"kind\":\"starved\",\"name\":\"pump\",\"id\":\"0x1a0\",\"waits_us\":558,\"allowed_us\":50},\n{\"kind\":\"deaf\",\"name\":\"panel\",\"passed\":3,\"most_passed\":12}\n]}\n")
causes = refl

-- and for each message and node that misses frames of it or has taken some twice
deliveries : formatted Json subject.Traffic (codes "missed far 1 of 3 frames of pump 1a0\ntwice panel 2 of 3 frames of pump 000001a0\n")
    ≡ Some (codes "{\"command\":\"traffic\",\"records\":[\n{\"kind\":\"missed\",\"receiver\":\"far\",\"frames\":1,\"sent\":3,\"name\":\"pump\",\"id\":\"0x1a0\"},\n{\"kind\":\"twice\",\"receiver\":\"panel\",\"frames\":2,\"sent\":3,\"name\":\"pump\",\"id\":\"0x000001a0\"}\n]}\n")
deliveries = refl

healed : formatted Json subject.Traffic (codes "healed 14 us after the last disturbance, clean from tick 412000 on\n")
    ≡ Some (codes "{\"command\":\"traffic\",\"records\":[\n{\"kind\":\"healed\",\"healed_us\":14,\"tick\":412000}\n]}\n")
healed = refl

-- and what is proved of a disturbed bus, or why nothing is
silences : formatted Json subject.Traffic
    (codes "clean from tick 900 on, after a silence from tick 500 on, proved: a_law\nnot proved clean; margin: does not hold: it is far\nnot proved clean: a is error passive or bus off at the end\n")
    ≡ Some
    (codes "{\"command\":\"traffic\",\"records\":[\n{\"kind\":\"clean\",\"tick\":900,\"silent_tick\":500,\"law\":\"a_law\"},\n{\"kind\":\"unproved\",\"reason\":\"does not hold: it is far\"},\n{\"kind\":\"unproved\",\"reason\":\"a is error passive or bus off at the end\"}\n]}\n")
silences = refl

no_line : formatted Json subject.Trace [] ≡ Some (codes "{\"command\":\"trace\",\"records\":[\n]}\n")
no_line = refl

-- a line of no shape
no_shape : formatted Csv subject.Check (codes "pair 0 1 delay 0325 back 400\n") ≡ None
no_shape = refl
